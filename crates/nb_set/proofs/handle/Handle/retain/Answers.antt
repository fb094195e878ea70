use Rattle.std.proofs.Common.{None, Ok, Some, inl, inr, rules, subst}
use Rattle.nb_set.proofs.Handles.{keeps-on}
use Rattle.nb_set.proofs.Swept.{sweep-all, sweep-begun, sweep-kept, sweep-refused}
use Rattle.nb_set.specs.Log.{Remove}
use Rattle.nb_set.specs.Promises.{HasWalkedOn, HasWritten}
use Rattle.nb_set.specs.Sets.{SetOf}
use Rattle.nb_set.proofs.handle.Handle.retain.Goals as goal

pub loop-key-init : goal.loop-key-init
loop-key-init g c = (
  c.requires.callable,
  sweep-begun c.begin_walk-walk.ensures.begun,
  c.begin_walk-walk.ensures.rest,
)

pub loop-key-preserved : goal.loop-key-preserved
loop-key-preserved g c =
    let key = c.in-Some.key in
    let kept = c.keep_or_remove.new.keep in
    let rest = keeps-on c.in-Some.ensures.rest c.loop-key.invariant.2 in
    let on = subst (λ (set : SetOf). HasWalkedOn set c.loop-key.self.seat c.next_key.new.self.seat
    c.loop-key.walk c.next_key.new.walk (Some key)) c.loop-key.invariant.2.set c.in-Some.ensures.walked in (
      c.keep_or_remove.ensures.callable,
      elim c.keep_or_remove.ensures.swept [
        | inl stays ↦
            rw stays.1 (sweep-kept key kept c.loop-key.invariant.1 on stays.0)
        | inr goes ↦
            sweep-refused key kept c.loop-key.invariant.1 on goes.1
            (subst (λ (set : SetOf). HasWritten set (Remove key) c.next_key.new.self.seat
            c.keep_or_remove.new.self.seat (Ok goes.0)) rest.set goes.2)
      ],
      keeps-on c.keep_or_remove.ensures.rest rest,
    )

pub returns-clause-swept : goal.returns-clause-swept
returns-clause-swept g c =
    let on : HasWalkedOn c.loop-key.self.set c.loop-key.self.seat c.next_key.new.self.seat
    c.loop-key.walk c.next_key.new.walk None = search rules in
    sweep-all {walk' = c.next_key.new.walk} c.loop-key.invariant.1
    (subst (λ (set : SetOf). HasWalkedOn set c.loop-key.self.seat c.next_key.new.self.seat
    c.loop-key.walk c.next_key.new.walk None) c.loop-key.invariant.2.set on)
