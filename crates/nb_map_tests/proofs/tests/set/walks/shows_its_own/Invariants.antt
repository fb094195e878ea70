use Rattle.nb_set.specs.Sets.{IsMine}
use Rattle.nb_map_tests.proofs.tests.set.walks.shows_its_own.Given as goal

abbrev pub invariant-loop-k : goal.invariant-loop-k
invariant-loop-k g l = IsMine l.set l.seat
