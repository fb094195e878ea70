use Rattle.std.proofs.Common.{arith}
use Rattle.nb_core.proofs.Churned.{IsSmallest, none-suits, smallest-found}
use Rattle.nb_core.proofs.shapes.churn.smallest_exponent.Goals as goal

pub returns-then-max-gt-MAX_SLOTS-clause-first : goal.returns-then-max-gt-MAX_SLOTS-clause-first
returns-then-max-gt-MAX_SLOTS-clause-first c =
    λ within. omega (arith, within, none-suits c.args.live c.args.ever (omega arith))

pub returns-then-exponent-gt-CHURN_GREATEST-clause-first :
    goal.returns-then-exponent-gt-CHURN_GREATEST-clause-first
returns-then-exponent-gt-CHURN_GREATEST-clause-first c =
    let smallest : IsSmallest c.args.live c.args.ever c.ilog2-exponent.result =
    smallest-found c.args.live c.args.ever c.div_ceil-share.result c.max-slots.result
    c.ilog2-exponent.result (omega arith) (omega arith) (omega arith)
    c.ilog2-exponent.ensures.power_le c.ilog2-exponent.ensures.next_power_gt in
    λ within. omega (arith, within, smallest.past (omega arith))

pub returns-clause-first : goal.returns-clause-first
returns-clause-first c =
    let smallest : IsSmallest c.args.live c.args.ever c.ilog2-exponent.result =
    smallest-found c.args.live c.args.ever c.div_ceil-share.result c.max-slots.result
    c.ilog2-exponent.result (omega arith) (omega arith) (omega arith)
    c.ilog2-exponent.ensures.power_le c.ilog2-exponent.ensures.next_power_gt in
    (omega (arith, smallest.first (omega arith)), omega (arith, smallest.first (omega arith)))
