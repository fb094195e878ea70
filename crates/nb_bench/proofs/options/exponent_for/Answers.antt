use Rattle.std.proofs.Common.{◌+◌, ◌-◌, arith}
use Rattle.nb_bench.proofs.Exponents.{has-room, lacks-room}
use Rattle.nb_bench.proofs.options.exponent_for.Goals as goal

pub returns-then-below-ge-MAX_EXPONENT-clause-smallest :
    goal.returns-then-below-ge-MAX_EXPONENT-clause-smallest
returns-then-below-ge-MAX_EXPONENT-clause-smallest c =
    λ more. lacks-room c.args.keys c.max-slots.result c.ilog2-below.result 27 (omega arith)
    c.ilog2-below.ensures.power_le (omega arith) (omega arith)

pub returns-clause-room : goal.returns-clause-room
returns-clause-room c =
    λ within. has-room c.args.keys c.max-slots.result c.ilog2-below.result (omega arith)
    c.ilog2-below.ensures.next_power_gt

pub returns-clause-smallest : goal.returns-clause-smallest
returns-clause-smallest c =
    λ more. lacks-room c.args.keys c.max-slots.result c.ilog2-below.result
    (c.ilog2-below.result + 1 - 1) (omega arith) c.ilog2-below.ensures.power_le
    (omega (arith, more)) (omega arith)
