use Rattle.std.proofs.Common.{arith}
use Rattle.nb_core.proofs.Kept.{inside-tuned}
use Rattle.nb_core.proofs.shapes.Shape.with_reprobe_limit.Goals as goal

pub invariant_of-result : goal.invariant_of-result
invariant_of-result c =
    inside-tuned c.self.inside c.args.reprobes c.self.inside.chunk c.self.invariant
    (omega (arith, c.if-reprobes-lt1.false), omega (arith, c.ranges.reprobes.fits))
    c.self.invariant.plan.chunk
