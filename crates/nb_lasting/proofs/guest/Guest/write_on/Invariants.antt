use Rattle.std.proofs.Common.{◌≡◌, []}
use Rattle.nb_core.specs.declared.calls.Call.TheVariants.{Write}
use Rattle.nb_lasting.specs.Guests.{GuestHasCalled, GuestOf, HasTriedUntilDone}
use Rattle.nb_lasting.proofs.guest.Guest.write_on.Given as goal

abbrev pub invariant-loop : goal.invariant-loop
invariant-loop g l =
    (goal.iterator-loop g).can_next l.iterator' × (goal.iterator-loop g).is_finite l.iterator'
    × GuestHasCalled l.fn.self l.self []
    × ((last : GuestOf) → HasTriedUntilDone (Write l.fn.key l.fn.want l.fn.change) l.self last
    → HasTriedUntilDone (Write l.fn.key l.fn.want l.fn.change) l.fn.self last)
    × (l.self.left ≡ l.fn.self.left)
