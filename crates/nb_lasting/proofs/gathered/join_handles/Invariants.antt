use Rattle.std.proofs.Common.{◌≤◌, length, vec_capacity}
use Rattle.nb_lasting.proofs.Joined.{AreJoined}
use Rattle.nb_lasting.proofs.gathered.join_handles.Given as goal

abbrev pub invariant-loop-other : goal.invariant-loop-other
invariant-loop-other l =
    AreJoined l.fn.handles.items l.others.items l.whole
    × (length l.fn.handles.items ≤ vec_capacity l.others)

abbrev pub decreases-loop-other : goal.decreases-loop-other
decreases-loop-other l = length l.others.items
