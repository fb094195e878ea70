use Rattle.std.proofs.Common.{◌*◌, ◌+◌, ◌-◌, ◌<◌, ◌≤◌, arith, sym}
use Rattle.std.proofs.lemmas.Grind.{div_ceil_times}
use Rattle.nb_core.specs.Plans.{slots_for}
use Rattle.nb_core.proofs.Churned.{fewest-found}
use Rattle.nb_core.proofs.shapes.churn.fewest_tables.Goals as goal

pub returns-clause-first : goal.returns-clause-first
returns-clause-first c =
    let wanted = slots_for c.args.ever - c.args.size in
    let fresh = c.args.size - c.args.live in
    let rounded = div_ceil_times wanted fresh (omega arith) in
    let over : wanted ≤ c.div_ceil.result * fresh =
    rw (c.div_ceil.ensures, c.saturating_sub.ensures) rounded.0 in
    let under : c.div_ceil.result * fresh < wanted + fresh =
    rw (c.div_ceil.ensures, c.saturating_sub.ensures) rounded.1 in
    let fewest = fewest-found c.args.live c.args.ever c.args.size c.div_ceil.result
    c.requires.more c.requires.room over under in
    sym fewest.first
