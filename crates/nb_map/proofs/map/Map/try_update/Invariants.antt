use Rattle.nb_map.proofs.Updated.{HasCome}
use Rattle.nb_map.proofs.map.Map.try_update.Given as goal

abbrev pub invariant-loop-lost : goal.invariant-loop-lost
invariant-loop-lost g l =
    goal.F-IsAlwaysCallable g l.new_of
    × HasCome l.self (goal.F-step g) l.fn.new_of l.key l.fn.seat l.fn.tries l.seat l.new_of l.found
    l._lost
