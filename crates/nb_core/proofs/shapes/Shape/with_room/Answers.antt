use Rattle.std.proofs.Common.{◌≡◌, ◌∙◌, Ok, rules, sym}
use Rattle.nb_core.specs.declared.shapes.keys.TheConstants.{SHORT_PATH}
use Rattle.nb_core.specs.Plans.{checked_reprobes}
use Rattle.nb_core.proofs.Keyed.{tuned-steps}
use Rattle.nb_core.proofs.shapes.Shape.with_room.Goals as goal

pub returns : goal.returns
returns c =
    let limited :
    checked_reprobes c.stepped.result SHORT_PATH ≡ Ok c.in_ok-with_reprobe_limit.field-0 =
    search rules in
    c.with_chunk.ensures
    ∙ tuned-steps c.args.most c.last_exponent.result c.args.seats _ _ _
    (sym c.last_exponent.ensures.first) c.min-stripes.ensures c.stepped.ensures limited
