use Rattle.nb_set.proofs.Swept.{HasSweptTo}
use Rattle.nb_set.specs.Bulk.{Keeps}
use Rattle.nb_set.specs.Walks.{slots_before}
use Rattle.nb_set.proofs.set.LongSet.for_each.Given as goal

abbrev pub invariant-loop-key : goal.invariant-loop-key
invariant-loop-key g l =
    goal.F-IsAlwaysCallable g l.visit
    × HasSweptTo l.self (Keeps (goal.F-step g)) l.fn.seat l.fn.visit l.seat l.walk l.visit

abbrev pub decreases-loop-key : goal.decreases-loop-key
decreases-loop-key g l = slots_before l.self l.walk
