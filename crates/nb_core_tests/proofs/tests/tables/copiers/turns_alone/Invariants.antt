use Rattle.nb_core.specs.Tables.{IsInstalled}
use Rattle.nb_table.specs.Chains.{IsOwn, seen_by}
use Rattle.nb_core_tests.proofs.tests.tables.copiers.turns_alone.Given as goal

abbrev pub invariant-loop-i : goal.invariant-loop-i
invariant-loop-i l = IsOwn l.chain l.seat × IsInstalled (seen_by l.chain.shape l.seat) 1
