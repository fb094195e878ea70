use Rattle.nb_set.specs.Promises.{ahead_of}
use Rattle.nb_map_tests.proofs.tests.set.walks.digits_by.Given as goal

abbrev pub decreases-loop-key : goal.decreases-loop-key
decreases-loop-key l = ahead_of l.walk
