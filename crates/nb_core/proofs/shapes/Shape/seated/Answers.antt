use Rattle.std.proofs.Common.{◌∙◌, ◌≤◌, Ok, ap, rules, sym}
use Rattle.nb_core.specs.Plans.{Plan}
use Rattle.nb_core.proofs.Checks.{seated-plan}
use Rattle.nb_core.proofs.shapes.Shape.seated.Goals as goal

pub returns : goal.returns
returns c =
    let some : (1 ≤ c.args.seats) × (c.args.seats ≤ 8) = search rules in
    let striped : (1 ≤ c.args.stripes) × (c.args.stripes ≤ 8) = search rules in
    ap (λ (p : Plan). Ok p) c.laid_out.ensures
    ∙ sym (seated-plan c.args.exponents.now c.args.seats c.args.stripes some striped)
