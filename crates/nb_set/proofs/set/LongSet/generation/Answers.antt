use Rattle.std.proofs.Common.{subst}
use Rattle.nb_set.specs.Promises.{HasSeenTop}
use Rattle.nb_set.proofs.Promised.{seen-top}
use Rattle.nb_set.proofs.set.LongSet.generation.Goals as goal

pub returns : goal.returns
returns c =
    subst (λ set. HasSeenTop set c.args.seat.now c.generation.new.seat c.generation.result)
    c.self.view_is
    (seen-top c.generation.ensures)
