use Rattle.std.proofs.Common.{length}
use Rattle.nb_texts.proofs.clues.+found.Given as goal

abbrev pub decreases-join_mut+arg2 : goal.decreases-join_mut+arg2
decreases-join_mut+arg2 g l = length l.few.now

abbrev pub decreases-join_mut+arg3 : goal.decreases-join_mut+arg3
decreases-join_mut+arg3 g l = length l.others.now

abbrev pub decreases-found_by_all : goal.decreases-found_by_all
decreases-found_by_all g l = length l.readers.now
