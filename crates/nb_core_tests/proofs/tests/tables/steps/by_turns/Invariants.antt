use Rattle.std.proofs.Common.{All}
use Rattle.nb_table.specs.Chains.{IsOwn}
use Rattle.nb_core_tests.proofs.tests.tables.steps.by_turns.Given as goal

abbrev pub invariant-loop-who : goal.invariant-loop-who
invariant-loop-who g l = All (IsOwn l.chain) l.seats
