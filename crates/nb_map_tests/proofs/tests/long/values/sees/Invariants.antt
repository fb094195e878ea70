use Rattle.nb_map.specs.Maps.{IsMine}
use Rattle.nb_map_tests.proofs.tests.long.values.sees.Given as goal

abbrev pub invariant-loop-k : goal.invariant-loop-k
invariant-loop-k g l = IsMine l.map.map l.seat
