use Rattle.nb_map.proofs.Swept.{HasSweptTo}
use Rattle.nb_map.specs.Steps.{slots_ahead}
use Rattle.nb_map.proofs.map.Map.retain.Given as goal

abbrev pub invariant-loop-entry : goal.invariant-loop-entry
invariant-loop-entry g l =
    goal.F-IsAlwaysCallable g l.keep
    × HasSweptTo l.self l.fn.seat (goal.F-step g) l.fn.keep l.seat l.walk l.keep

abbrev pub decreases-loop-entry : goal.decreases-loop-entry
decreases-loop-entry g l = slots_ahead l.self.chain.shape l.walk.place
