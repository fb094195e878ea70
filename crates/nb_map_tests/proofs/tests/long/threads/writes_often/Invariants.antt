use Rattle.nb_long.specs.Handles.{IsSameMap}
use Rattle.nb_map_tests.proofs.tests.long.threads.writes_often.Given as goal

abbrev pub invariant-loop-time : goal.invariant-loop-time
invariant-loop-time g l = IsSameMap l.fn.handle l.handle
