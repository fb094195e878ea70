use Rattle.nb_count.specs.Counts.{AreOwn}
use Rattle.nb_core_tests.proofs.tests.counter.add_each.Given as goal

abbrev pub invariant-loop-index : goal.invariant-loop-index
invariant-loop-index l = AreOwn l.counter l.seats
