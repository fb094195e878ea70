use Rattle.std.proofs.Common.{length}
use Rattle.nb_count.proofs.counter.Counter.+sum_with.Given as goal

abbrev pub decreases-sum_with : goal.decreases-sum_with
decreases-sum_with l = length l.seats.now.items
