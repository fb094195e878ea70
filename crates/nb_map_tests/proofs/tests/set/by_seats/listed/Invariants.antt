use Rattle.nb_set.specs.Sets.{AreMine}
use Rattle.nb_map_tests.proofs.tests.set.by_seats.listed.Given as goal

abbrev pub invariant-loop-attempt : goal.invariant-loop-attempt
invariant-loop-attempt g l = AreMine l.set l.seats.items
