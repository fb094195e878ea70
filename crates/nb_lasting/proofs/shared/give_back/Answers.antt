use Rattle.std.proofs.Common.{arith}
use Rattle.nb_lasting.proofs.shared.give_back.Goals as goal

pub swap-requires : goal.swap-requires
swap-requires g c =
    (c.requires.table, omega (arith, c.requires.lane, c.args.hall.now.words), c.requires.may)

pub returns-then-swap-eq-AWAITED-clause-given : goal.returns-then-swap-eq-AWAITED-clause-given
returns-then-swap-eq-AWAITED-clause-given g c = (c.swap.result, c.swap.ensures.2)

pub returns-else-swap-eq-AWAITED-clause-given : goal.returns-else-swap-eq-AWAITED-clause-given
returns-else-swap-eq-AWAITED-clause-given g c = (c.swap.result, c.swap.ensures.2)
