use Rattle.std.proofs.Common.{◌≤◌, rules}
use Rattle.nb_core.specs.declared.shapes.TheConstants.{MAX_STRIPES}
use Rattle.nb_core.proofs.Kept.{inside-seated}
use Rattle.nb_core.proofs.shapes.Shape.with_stripes.Goals as goal

pub invariant_of-result : goal.invariant_of-result
invariant_of-result c =
    let within : (1 ≤ c.args.stripes) × (c.args.stripes ≤ MAX_STRIPES) = search rules in
    inside-seated c.self.inside c.self.inside.seats c.args.stripes c.self.invariant
    c.self.invariant.plan.seats within
