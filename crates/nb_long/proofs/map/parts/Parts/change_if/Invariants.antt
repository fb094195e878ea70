use Rattle.nb_core.specs.declared.calls.Call.TheVariants.{Get}
use Rattle.nb_map.specs.Handles.{KeepsRest}
use Rattle.nb_map.specs.Maps.{IsMine}
use Rattle.nb_long.proofs.Rounds.{HasIdled}
use Rattle.nb_long.proofs.map.parts.Parts.change_if.Given as goal

abbrev pub invariant-loop : goal.invariant-loop
invariant-loop g l =
    let handle = g.M.Numbers.handle l.self.map.now in
    let first = handle l.initial.caller in
    let now = handle l.caller in
    record {
      can_next : (goal.iterator-loop g).can_next l.iterator';
      is_finite : (goal.iterator-loop g).is_finite l.iterator';
      own : IsMine first.map now.seat;
      idled : HasIdled (record { map = first.map; store = l.self.store.now }) (Get l.key) l.key
          first.seat now.seat;
      rest : KeepsRest first now;
    }
