use Rattle.nb_map.proofs.Swept.{HasSweptTo}
use Rattle.nb_map.specs.Bulk.{Keeps}
use Rattle.nb_map.specs.Steps.{slots_ahead}
use Rattle.nb_map.proofs.map.Map.for_each.Given as goal

abbrev pub invariant-loop-entry : goal.invariant-loop-entry
invariant-loop-entry g l =
    goal.F-IsAlwaysCallable g l.visit
    × HasSweptTo l.self l.fn.seat (Keeps (goal.F-step g)) l.fn.visit l.seat l.walk l.visit

abbrev pub decreases-loop-entry : goal.decreases-loop-entry
decreases-loop-entry g l = slots_ahead l.self.chain.shape l.walk.place
