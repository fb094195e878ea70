use Rattle.nb_set.specs.Sets.{IsMine}
use Rattle.nb_map_tests.proofs.tests.set.by_seats.sees.Given as goal

abbrev pub invariant-loop-i : goal.invariant-loop-i
invariant-loop-i g l = IsMine l.set l.seat
