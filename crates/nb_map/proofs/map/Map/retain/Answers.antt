use Rattle.std.proofs.Common.{inl, inr, rules}
use Rattle.nb_map.proofs.Swept.{sweep-all, sweep-begun, sweep-kept, sweep-refused}
use Rattle.nb_map.proofs.map.Map.retain.Goals as goal

pub loop-entry-init : goal.loop-entry-init
loop-entry-init g c = (c.requires.callable, sweep-begun c.requires.own c.walk-walk.ensures)

pub loop-entry-preserved : goal.loop-entry-preserved
loop-entry-preserved g c =
    let entry = c.in-Some.entry in
    let kept = c.keep_or_remove.new.keep in (
      c.keep_or_remove.ensures.callable,
      elim c.keep_or_remove.ensures.swept [
        | inl stays ↦
            rw stays.1
            (sweep-kept c.requires.own entry.0 entry.1 kept c.loop-entry.invariant.1
            (rw c.in-Some.is at c.next_key.ensures) stays.0)
        | inr goes ↦
            sweep-refused c.requires.own entry.0 entry.1 kept c.loop-entry.invariant.1
            (rw c.in-Some.is at c.next_key.ensures) goes.1 goes.2
      ],
    )

pub returns : goal.returns
returns g c = sweep-all c.requires.own {walk' = c.next_key.new.walk} c.loop-entry.invariant.1
    (search rules)
