use Rattle.std.proofs.Common.{arith}
use Rattle.nb_core.proofs.Kept.{bases-at}
use Rattle.nb_core.proofs.shapes.Shape.key_place.Goals as goal

pub returns : goal.returns
returns c = omega (arith, bases-at _ _ c.args.g c.self.invariant c.self.view_is c.requires.table)
