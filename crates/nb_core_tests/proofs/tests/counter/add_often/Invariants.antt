use Rattle.nb_count.specs.Counts.{IsOwn}
use Rattle.nb_core_tests.proofs.tests.counter.add_often.Given as goal

abbrev pub invariant-loop : goal.invariant-loop
invariant-loop l = IsOwn l.fn.counter l.seat
