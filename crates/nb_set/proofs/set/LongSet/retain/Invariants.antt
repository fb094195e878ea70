use Rattle.nb_set.proofs.Swept.{HasSweptTo}
use Rattle.nb_set.specs.Walks.{slots_before}
use Rattle.nb_set.proofs.set.LongSet.retain.Given as goal

abbrev pub invariant-loop-key : goal.invariant-loop-key
invariant-loop-key g l =
    goal.F-IsAlwaysCallable g l.keep
    × HasSweptTo l.self (goal.F-step g) l.fn.seat l.fn.keep l.seat l.walk l.keep

abbrev pub decreases-loop-key : goal.decreases-loop-key
decreases-loop-key g l = slots_before l.self l.walk
