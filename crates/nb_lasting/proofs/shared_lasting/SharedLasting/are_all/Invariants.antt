use Rattle.std.proofs.Common.{◌≡◌, ◌<◌, ℕ, Some, slice_get}
use Rattle.nb_lasting.specs.Guests.{GuestOf}
use Rattle.nb_lasting.proofs.shared_lasting.SharedLasting.are_all.Given as goal

abbrev pub invariant-loop-i : goal.invariant-loop-i
invariant-loop-i l =
    (i : ℕ) (guest : GuestOf) → i < l.i → slice_get l.fn.guests i ≡ Some guest → guest.number ≡ i
