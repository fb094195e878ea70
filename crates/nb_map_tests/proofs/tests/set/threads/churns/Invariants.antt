use Rattle.nb_set.specs.Handles.{IsSameSet}
use Rattle.nb_map_tests.proofs.tests.set.threads.churns.Given as goal

abbrev pub invariant-loop-time : goal.invariant-loop-time
invariant-loop-time g l = IsSameSet l.fn.handle l.handle
