use Rattle.std.proofs.Common.{◌≡◌, ◌-◌, ◌*◌, ◌<◌, sym, subst, arith}
use Rattle.std.proofs.Math.Nat.{le_refl}
use Rattle.nb_core.specs.Plans.{size_of}
use Rattle.nb_table.specs.Chains.{seen_by}
use Rattle.nb_map.specs.inside.Walking.{HasGone}
use Rattle.nb_map.specs.Walks.{IsPlace}
use Rattle.nb_map.specs.Steps.{meeting_steps, passing_steps, slots_ahead}
use Rattle.nb_map.specs.declared.steps.walk.Place.TheVariants.{Slot}
use Rattle.nb_map.proofs.Made.{made-stays}
use Rattle.nb_map.proofs.Passing.{if-shown, slots-fall, stretch-steps}
use Rattle.nb_map.proofs.Walked.{gone-none, gone-within}
use Rattle.nb_map.proofs.steps.walk.next_before.Goals as goal
use Rattle.nb_map.proofs.steps.walk.next_before.Goals.{After-next_in-to}

pub returns-in_default-clause-gone : goal.returns-in_default-clause-gone
returns-in_default-clause-gone c =
    let place = c.args.place.now in
    gone-within c.args.chain.now 0 (passing_steps c.args.chain.now.shape place place) (omega arith)
    (gone-none c.args.chain.now c.args.seat.now c.requires.own c.args.first place)

pub returns-then-g-first-clause-gone : goal.returns-then-g-first-clause-gone
returns-then-g-first-clause-gone c =
    let place = c.args.place.now in
    gone-within c.args.chain.now 0 (passing_steps c.args.chain.now.shape place place) (omega arith)
    (gone-none c.args.chain.now c.args.seat.now c.requires.own c.args.first place)

-- the walk was in its first table
was : (c : After-next_in-to) → c.args.place.now ≡ Slot c.args.first c.in-Slot.from
was c =
    let p = c.args.chain.now.shape in
    let at = subst (IsPlace p (seen_by p c.args.seat.now) c.args.first) c.in-Slot.is
    c.requires.place in
    let same : c.in-Slot.g ≡ c.args.first = omega (arith, at.0, c.if-g-first.false) in
    subst (λ g. c.args.place.now ≡ Slot g c.in-Slot.from) same c.in-Slot.is

at : (c : After-next_in-to) → IsPlace c.args.chain.now.shape
    (seen_by c.args.chain.now.shape c.args.seat.now) c.args.first (Slot c.args.first c.in-Slot.from)
at c =
    let p = c.args.chain.now.shape in
    subst (IsPlace p (seen_by p c.args.seat.now) c.args.first) (was c) c.requires.place

-- it is before that table's end still
inside : (c : After-next_in-to)
    → c.next_in-to.result.to < size_of c.args.chain.now.shape c.args.first
inside c = let within = c.next_in-to.ensures.within in omega (arith, within, c.requires.slot)

pub returns-clause-gone : goal.returns-clause-gone
returns-clause-gone c =
    let here = (goal.at.returns-clause-gone c).After-next_in-to in
    let p = c.args.chain.now.shape in
    let first = c.args.first in
    let from = c.in-Slot.from in
    let to = c.next_in-to.result.to in
    let steps = stretch-steps p first from to (Slot first to) c.requires.first.table
    c.next_in-to.ensures.onward (omega (arith, inside here)) (le_refl (slots_ahead p (Slot first to))) in
    subst (λ place. HasGone p c.args.seat.now c.next_in-to.new.seat first place (Slot first to)
    c.next_in-to.result.shown (passing_steps p place (Slot first to))) (sym (was here))
    (gone-within c.args.chain.now ((to - from) * meeting_steps p)
    (passing_steps p (Slot first from) (Slot first to)) (omega (arith, steps))
    c.next_in-to.ensures.gone)

pub returns-clause-place : goal.returns-clause-place
returns-clause-place c =
    let here = (goal.at.returns-clause-place c).After-next_in-to in (
      le_refl c.args.first,
      (made-stays c.args.chain.now c.requires.own (c.next_in-to.ensures.gone.made 0)).installed
          c.args.first (at here).1,
      inside here,
    )

pub returns-clause-ahead : goal.returns-clause-ahead
returns-clause-ahead c =
    let here = (goal.at.returns-clause-ahead c).After-next_in-to in
    let p = c.args.chain.now.shape in
    let to = c.next_in-to.result.to in
    if-shown c.next_in-to.result.shown
    (subst (λ place. slots_ahead p (Slot c.args.first to) < slots_ahead p place) (sym (was here))
    (slots-fall p c.args.first c.in-Slot.from to c.requires.first.table
    c.next_in-to.ensures.onward (omega (arith, inside here))))
