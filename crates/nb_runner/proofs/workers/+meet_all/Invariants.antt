use Rattle.std.proofs.Common.{length}
use Rattle.nb_runner.proofs.workers.+meet_all.Given as goal

-- how many workers there are
abbrev pub decreases-meet_all : goal.decreases-meet_all
decreases-meet_all l = length l.workers.items
