use Rattle.nb_core.proofs.Filled.{IsFilled}
use Rattle.nb_core.proofs.Stepped.{step_down}
use Rattle.nb_core.proofs.shapes.Shape.stepped.Given as goal

abbrev pub invariant-loop-g : goal.invariant-loop-g
invariant-loop-g l = IsFilled (step_down l.tables l.last) l.exponents l.g
