use Rattle.std.proofs.Common.{arith}
use Rattle.nb_table.proofs.Counts.{top-found}
use Rattle.nb_table.proofs.chain.Chain.load_top.Goals as goal

pub overflow_cast-top : goal.overflow_cast-top
overflow_cast-top c = omega (arith, top-found _ c.requires.own.plan _ _ _ _ c.loads-top.ensures)
