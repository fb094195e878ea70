use Rattle.std.proofs.Common.{subst}
use Rattle.nb_set.specs.Promises.{HasLookedUp}
use Rattle.nb_set.proofs.Promised.{looked-up}
use Rattle.nb_set.proofs.set.LongSet.contains.Goals as goal

pub returns : goal.returns
returns c =
    let (number, is, got) = c.contains_key.ensures in
    subst (λ set. HasLookedUp set c.args.key c.args.seat.now c.contains_key.new.seat
    c.contains_key.result) c.self.view_is
    (looked-up c.args.key number c.contains_key.result is got)
