use Rattle.nb_table.specs.Chains.{IsOwn}
use Rattle.nb_core_tests.proofs.tests.tables.steps.goes.Given as goal

abbrev pub invariant-loop-i : goal.invariant-loop-i
invariant-loop-i g l = IsOwn l.chain l.seat
