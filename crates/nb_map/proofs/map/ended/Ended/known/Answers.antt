use Rattle.std.proofs.Common.{subst}
use Rattle.nb_core.proofs.Theorems.{log_is_replayed}
use Rattle.nb_core.specs.Log.{IsReplayed}
use Rattle.nb_map.specs.Ending.{log_left}
use Rattle.nb_map.proofs.map.ended.Ended.known.Goals as goal

pub returns-clause-replayed : goal.returns-clause-replayed
returns-clause-replayed c =
    let left = c.self.invariant.left in
    subst (λ ended. IsReplayed (log_left ended)) c.self.view_is
    (log_is_replayed c.self.inside.closed.shape left.plan c.self.inside.closed.history
    left.legal).replayed
