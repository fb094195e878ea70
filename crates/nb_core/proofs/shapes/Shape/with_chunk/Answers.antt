use Rattle.std.proofs.Common.{◌≡◌, ◌≤◌, rules}
use lib.Count.{ones}
use Rattle.nb_core.proofs.Kept.{inside-tuned}
use Rattle.nb_core.proofs.Powers.{chunk-of-one_digit}
use Rattle.nb_core.proofs.shapes.Shape.with_chunk.Goals as goal

pub invariant_of-result : goal.invariant_of-result
invariant_of-result c =
    let within : (4 ≤ c.args.slots) × (c.args.slots ≤ 1024) = search rules in
    let single : ones c.args.slots ≡ 1 = search rules in
    inside-tuned c.self.inside c.self.inside.reprobes c.args.slots c.self.invariant
    c.self.invariant.plan.reprobes
    (chunk-of-one_digit c.args.slots within.0 within.1 single)
