use Rattle.std.proofs.Common.{subst}
use Rattle.nb_set.specs.Promises.{HasEstimated}
use Rattle.nb_set.proofs.Promised.{estimated}
use Rattle.nb_set.proofs.set.LongSet.size_estimate.Goals as goal

pub returns : goal.returns
returns c =
    subst (λ set. HasEstimated set c.args.seat.now c.size_estimate.new.seat) c.self.view_is
    (estimated c.size_estimate.ensures)
