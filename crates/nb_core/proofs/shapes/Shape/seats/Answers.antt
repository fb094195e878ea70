use Rattle.nb_core.proofs.Kept.{plan-kept}
use Rattle.nb_core.proofs.shapes.Shape.seats.Goals as goal

pub returns-clause-plan : goal.returns-clause-plan
returns-clause-plan c = plan-kept _ _ c.self.invariant c.self.view_is
