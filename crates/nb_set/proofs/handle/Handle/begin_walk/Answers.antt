use Rattle.std.proofs.Common.{subst}
use Rattle.nb_set.specs.Handles.{HandleOf}
use Rattle.nb_set.specs.Promises.{HasBegunWalk}
use Rattle.nb_set.specs.Walks.{WalkOf}
use Rattle.nb_set.proofs.Promised.{begun-walk}
use Rattle.nb_set.proofs.handle.Handle.begin_walk.Goals as goal

pub returns-clause-begun : goal.returns-clause-begun
returns-clause-begun c =
    let walk : WalkOf = record { map = c.begin_walk-map.result } in
    subst (λ (handle : HandleOf). HasBegunWalk handle.set handle.seat
    c.begin_walk-map.new.self.seat walk) c.self.view_is
    (begun-walk c.begin_walk-map.ensures.begun)
