use Rattle.nb_map.specs.Promises.{ahead_of}
use Rattle.nb_tally.proofs.NumbersLemmas.{HasCountedSoFar}
use Rattle.nb_tally.proofs.counting.counts_of.Given as goal

abbrev pub invariant-loop-key : goal.invariant-loop-key
invariant-loop-key l =
    HasCountedSoFar l.fn.handle l.initial.walk.walk.begun l.walk l.counts.items

abbrev pub decreases-loop-key : goal.decreases-loop-key
decreases-loop-key l = ahead_of l.walk
