use Rattle.std.proofs.Common.{◌≤◌, rules}
use Rattle.nb_core.specs.declared.shapes.TheConstants.{MAX_SEATS}
use Rattle.nb_core.proofs.Kept.{inside-seated}
use Rattle.nb_core.proofs.shapes.Shape.with_seats.Goals as goal

pub invariant_of-result : goal.invariant_of-result
invariant_of-result c =
    let within : (1 ≤ c.args.seats) × (c.args.seats ≤ MAX_SEATS) = search rules in
    inside-seated c.self.inside c.args.seats c.self.inside.stripes c.self.invariant within
    c.self.invariant.plan.stripes
