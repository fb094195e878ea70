use Rattle.nb_set.proofs.Swept.{HasSweptTo}
use Rattle.nb_set.specs.Bulk.{Keeps}
use Rattle.nb_set.specs.Handles.{KeepsRest}
use Rattle.nb_set.specs.Walks.{slots_before}
use Rattle.nb_set.proofs.handle.Handle.for_each.Given as goal

abbrev pub invariant-loop-key : goal.invariant-loop-key
invariant-loop-key g l =
    goal.F-IsAlwaysCallable g l.visit
    × HasSweptTo l.fn.self.set (Keeps (goal.F-step g)) l.fn.self.seat l.fn.visit l.self.seat l.walk l.visit
    × KeepsRest l.fn.self l.self

abbrev pub decreases-loop-key : goal.decreases-loop-key
decreases-loop-key g l = slots_before l.fn.self.set l.walk
