use Rattle.nb_core.proofs.Small.{small-slots}
use Rattle.nb_core.proofs.shapes.Shape.with_plan.Goals as goal

pub seated-requires-clause-slots : goal.seated-requires-clause-slots
seated-requires-clause-slots c =
    small-slots _ c.in_ok-check_exponents.ensures.sizes c.in_ok-check_exponents.ensures.tables.1
