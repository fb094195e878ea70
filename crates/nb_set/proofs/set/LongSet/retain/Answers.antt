use Rattle.std.proofs.Common.{inl, inr, rules}
use Rattle.nb_set.proofs.Swept.{sweep-all, sweep-begun, sweep-kept, sweep-refused}
use Rattle.nb_set.proofs.set.LongSet.retain.Goals as goal

pub loop-key-init : goal.loop-key-init
loop-key-init g c = (c.requires.callable, sweep-begun c.walk-walk.ensures)

pub loop-key-preserved : goal.loop-key-preserved
loop-key-preserved g c =
    let key = c.in-Some.key in
    let kept = c.keep_or_remove.new.keep in (
      c.keep_or_remove.ensures.callable,
      elim c.keep_or_remove.ensures.swept [
        | inl stays ↦
            rw stays.1
            (sweep-kept key kept c.loop-key.invariant.1 c.in-Some.ensures stays.0)
        | inr goes ↦
            sweep-refused key kept c.loop-key.invariant.1 c.in-Some.ensures goes.1 goes.2
      ],
    )

pub returns : goal.returns
returns g c = sweep-all {walk' = c.next_key.new.walk} c.loop-key.invariant.1 (search rules)
