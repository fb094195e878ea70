use Rattle.nb_core.proofs.Filled.{AreLaid}
use Rattle.nb_core.proofs.shapes.Shape.laid_out.Given as goal

abbrev pub invariant-loop-g : goal.invariant-loop-g
invariant-loop-g l = AreLaid l.exponents l.kept l.lasts l.bases l.words l.g
