use Rattle.std.proofs.Common.{subst}
use Rattle.nb_set.specs.Handles.{HandleOf}
use Rattle.nb_set.specs.Promises.{HasBegunWalk}
use Rattle.nb_set.specs.Walks.{WalkOf}
use Rattle.nb_set.proofs.Promised.{begun-walk}
use Rattle.nb_set.proofs.handle.Handle.walk.Goals as goal

pub returns-clause-begun : goal.returns-clause-begun
returns-clause-begun c =
    let walk : WalkOf = record { map = c.walk.result.walk } in
    subst (λ (handle : HandleOf). HasBegunWalk handle.set handle.seat c.walk.result.handle.seat
    walk) c.self.view_is
    (begun-walk c.walk.ensures.begun)
