use Rattle.nb_map.specs.Handles.{KeepsRest}
use Rattle.nb_long.proofs.Tries.{HasCome}
use Rattle.nb_long.proofs.map.parts.Parts.update.Given as goal

abbrev pub invariant-loop : goal.invariant-loop
invariant-loop g l =
    let handle = g.M.Numbers.handle l.self.map.now in
    let first = handle l.initial.caller in
    let now = handle l.caller in
    record {
      can_next : (goal.iterator-loop g).can_next l.iterator';
      is_finite : (goal.iterator-loop g).is_finite l.iterator';
      callable : goal.F-IsAlwaysCallable g l.new_of;
      come : HasCome (record { map = first.map; store = l.self.store.now }) (goal.F-step g) l.key
          first.seat l.fn.new_of now.seat l.new_of;
      rest : KeepsRest first now;
    }
