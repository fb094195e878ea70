use Rattle.std.proofs.Common.{◌≡◌, ◌∙◌, ap, sym, arith}
use Rattle.std.specs.Prelude.{max, min}
use Rattle.nb_core.specs.Plans.{plan_for_keys}
use Rattle.nb_core.specs.declared.shapes.TheConstants.{MOST_KEYS}
use Rattle.nb_lasting.proofs.Sizes.{has-slots, made-for}
use Rattle.nb_lasting.specs.declared.shapes.TheConstants.{LEAST}
use Rattle.nb_lasting.proofs.shapes.shape_for.Goals as goal

pub returns-clause-slots : goal.returns-clause-slots
returns-clause-slots c =
    has-slots c.in-Ok.shape c.args.keys c.min.result (omega arith) c.in-Ok.ensures.room

pub returns-clause-shape : goal.returns-clause-shape
returns-clause-shape c =
    let most : c.min.result ≡ min (max c.args.keys LEAST) MOST_KEYS = omega arith in
    made-for c.in-Ok.shape c.min.result c.args.seats (sym c.in-Ok.is ∙ c.for_keys.ensures.shape)
    ∙ ap (λ n. plan_for_keys n c.args.seats) most
