use Rattle.std.proofs.Common.{◌+◌, ◌*◌, length}
use Rattle.nb_runner.proofs.workers.+fn-run_together-scope+run_together.Given as goal

-- how many workers there are; the scope's closure has one less
abbrev pub decreases-scope : goal.decreases-scope
decreases-scope g l = 2 * length l.workers.items + 1

abbrev pub decreases-run_together : goal.decreases-run_together
decreases-run_together g l = 2 * length l.workers.items
