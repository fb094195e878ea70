use Rattle.std.proofs.Common.{subst}
use Rattle.nb_set.specs.Handles.{HandleOf}
use Rattle.nb_set.specs.Promises.{HasEstimated}
use Rattle.nb_set.proofs.Promised.{estimated}
use Rattle.nb_set.proofs.handle.Handle.size_estimate.Goals as goal

pub returns-clause-looked : goal.returns-clause-looked
returns-clause-looked c =
    subst (λ (handle : HandleOf). HasEstimated handle.set handle.seat
    c.size_estimate.new.self.seat) c.self.view_is
    (estimated c.size_estimate.ensures.looked)
