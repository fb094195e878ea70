use Rattle.std.proofs.Common.{None, Some, refl, rules, subst}
use Rattle.nb_set.proofs.Handles.{keeps-on}
use Rattle.nb_set.proofs.Swept.{sweep-all, sweep-begun, sweep-kept}
use Rattle.nb_set.specs.Promises.{HasWalkedOn}
use Rattle.nb_set.specs.Sets.{SetOf}
use Rattle.nb_set.proofs.handle.Handle.for_each.Goals as goal

pub loop-key-init : goal.loop-key-init
loop-key-init g c = (
  c.requires.callable,
  sweep-begun c.begin_walk-walk.ensures.begun,
  c.begin_walk-walk.ensures.rest,
)

pub loop-key-preserved : goal.loop-key-preserved
loop-key-preserved g c =
    let rest = c.loop-key.invariant.2 in (
      c.show.ensures.callable,
      sweep-kept c.in-Some.key c.show.new.visit c.loop-key.invariant.1
          (subst (λ (set : SetOf). HasWalkedOn set c.loop-key.self.seat c.next_key.new.self.seat
          c.loop-key.walk c.next_key.new.walk (Some c.in-Some.key)) rest.set
          c.in-Some.ensures.walked) (refl, c.show.ensures.stepped),
      keeps-on c.in-Some.ensures.rest rest,
    )

pub returns-clause-swept : goal.returns-clause-swept
returns-clause-swept g c =
    let on : HasWalkedOn c.loop-key.self.set c.loop-key.self.seat c.next_key.new.self.seat
    c.loop-key.walk c.next_key.new.walk None = search rules in
    sweep-all {walk' = c.next_key.new.walk} c.loop-key.invariant.1
    (subst (λ (set : SetOf). HasWalkedOn set c.loop-key.self.seat c.next_key.new.self.seat
    c.loop-key.walk c.next_key.new.walk None) c.loop-key.invariant.2.set on)
