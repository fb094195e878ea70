use Rattle.std.proofs.Common.{◌≡◌, ◌∙◌, ℕ, ◌+◌, ◌-◌, ◌*◌, ◌≤◌, ◌<◌, true, false, Option, None, Some, ap, refl, sym, subst, arith}
use Rattle.std.proofs.Math.Nat.{le_refl}
use Rattle.std.specs.Option.{is_some}
use Rattle.nb_core.specs.Plans.{generations_of, size_of}
use Rattle.nb_table.specs.Chains.{seen_by}
use Rattle.nb_map.specs.inside.Walking.{HasGone}
use Rattle.nb_map.specs.Walks.{IsPlace}
use Rattle.nb_map.specs.Steps.{passing_steps, meeting_steps, slots_ahead}
use Rattle.nb_map.specs.declared.steps.walk.Place.TheVariants.{Slot}
use Rattle.nb_map.proofs.Made.{made-own, made-stays}
use Rattle.nb_map.proofs.Passing.{if-shown, slots-fall, stretch-steps, ways-add}
use Rattle.nb_map.proofs.Searched.{table-within}
use Rattle.nb_map.proofs.Walked.{first-still, gone-more, gone-none, gone-then, gone-within}
use Rattle.nb_map.proofs.steps.walk.next_from.Goals as goal
use Rattle.nb_map.proofs.steps.walk.next_from.Goals.{After-place_from}

pub loop-place-init : goal.loop-place-init
loop-place-init c =
    let chain = c.args.chain.now in
    let p = chain.shape in (
      gone-within chain 0 (passing_steps p c.args.place.now c.args.place.now) (omega arith)
          (gone-none chain c.args.seat.now c.requires.own c.args.first c.args.place.now),
      c.requires.place,
      le_refl (slots_ahead p c.args.place.now),
    )

pub size_of-requires : goal.size_of-requires
size_of-requires c =
    let chain = c.args.chain.now in
    let own = made-own chain c.requires.own (c.loop-place.invariant.0.made 0) in
    let at = subst (IsPlace chain.shape (seen_by chain.shape c.loop-place.seat) c.args.first)
    c.in-Slot.is c.loop-place.invariant.1 in
    subst (λ p. c.in-Slot.g < generations_of p) (sym c.shape.ensures)
    (table-within chain c.loop-place.seat own c.in-Slot.g at.1)

pub next_in-to-requires-clause-own : goal.next_in-to-requires-clause-own
next_in-to-requires-clause-own c = made-own c.args.chain.now c.requires.own
    (c.loop-place.invariant.0.made 0)

pub next_in-to-requires-clause-first : goal.next_in-to-requires-clause-first
next_in-to-requires-clause-first c = first-still c.args.chain.now c.requires.own c.requires.first
    (c.loop-place.invariant.0.made 0)

pub next_in-to-requires-clause-table : goal.next_in-to-requires-clause-table
next_in-to-requires-clause-table c =
    let chain = c.args.chain.now in
    let own = made-own chain c.requires.own (c.loop-place.invariant.0.made 0) in
    let at = subst (IsPlace chain.shape (seen_by chain.shape c.loop-place.seat) c.args.first)
    c.in-Slot.is c.loop-place.invariant.1 in
    table-within chain c.loop-place.seat own c.in-Slot.g at.1

pub place_from-requires-clause-own : goal.place_from-requires-clause-own
place_from-requires-clause-own c =
    let chain = c.args.chain.now in
    made-own chain (made-own chain c.requires.own (c.loop-place.invariant.0.made 0))
    (c.next_in-to.ensures.gone.made 0)

pub place_from-requires-clause-table : goal.place_from-requires-clause-table
place_from-requires-clause-table c =
    let chain = c.args.chain.now in
    let own = made-own chain c.requires.own (c.loop-place.invariant.0.made 0) in
    let at = subst (IsPlace chain.shape (seen_by chain.shape c.loop-place.seat) c.args.first)
    c.in-Slot.is c.loop-place.invariant.1 in
    table-within chain c.loop-place.seat own c.in-Slot.g at.1

pub place_from-requires-clause-installed : goal.place_from-requires-clause-installed
place_from-requires-clause-installed c =
    let chain = c.args.chain.now in
    let own = made-own chain c.requires.own (c.loop-place.invariant.0.made 0) in
    let at = subst (IsPlace chain.shape (seen_by chain.shape c.loop-place.seat) c.args.first)
    c.in-Slot.is c.loop-place.invariant.1 in
    (made-stays chain own (c.next_in-to.ensures.gone.made 0)).installed c.in-Slot.g at.1

-- where the walk was before this stretch
was :
    (c : After-place_from) → IsPlace c.args.chain.now.shape
    (seen_by c.args.chain.now.shape c.loop-place.seat) c.args.first
    (Slot c.in-Slot.g c.in-Slot.from)
was c =
    let p = c.args.chain.now.shape in subst (IsPlace p (seen_by p c.loop-place.seat) c.args.first)
    c.in-Slot.is c.loop-place.invariant.1

table : (c : After-place_from) → c.in-Slot.g < generations_of c.args.chain.now.shape
table c =
    let chain = c.args.chain.now in
    table-within chain c.loop-place.seat (made-own chain c.requires.own
    (c.loop-place.invariant.0.made 0)) c.in-Slot.g (was c).1

-- the stretch ends in the table
inside : (c : After-place_from)
    → c.next_in-to.result.to ≤ size_of c.args.chain.now.shape c.in-Slot.g
inside c =
    let within = c.next_in-to.ensures.within in
    let all = ap (λ p. size_of p c.in-Slot.g) c.shape.ensures in
    omega (arith, within, c.size_of.ensures.size, all)

-- there are fewer slots before it now
fewer :
    (c : After-place_from) → slots_ahead c.args.chain.now.shape c.place_from.result
    < slots_ahead c.args.chain.now.shape (Slot c.in-Slot.g c.in-Slot.from)
fewer c =
    let p = c.args.chain.now.shape in
    let fall = slots-fall p c.in-Slot.g c.in-Slot.from c.next_in-to.result.to (table c)
    c.next_in-to.ensures.onward (inside c) in
    omega (arith, fall, c.place_from.ensures.slots)

no-more :
    (c : After-place_from) → slots_ahead c.args.chain.now.shape (Slot c.in-Slot.g c.in-Slot.from)
    ≤ slots_ahead c.args.chain.now.shape c.args.place.now
no-more c =
    let p = c.args.chain.now.shape in subst
    (λ place. slots_ahead p place ≤ slots_ahead p c.args.place.now)
    c.in-Slot.is c.loop-place.invariant.2

-- the way from where the call began
gone : (c : After-place_from)
    → HasGone c.args.chain.now.shape c.args.seat.now c.place_from.new.seat c.args.first
    c.args.place.now c.place_from.result c.next_in-to.result.shown
    (passing_steps c.args.chain.now.shape c.args.place.now c.place_from.result)
gone c =
    let chain = c.args.chain.now in
    let p = chain.shape in
    let g = c.in-Slot.g in
    let from = c.in-Slot.from in
    let to = c.next_in-to.result.to in
    let place = c.place_from.result in
    let own = made-own chain c.requires.own (c.loop-place.invariant.0.made 0) in
    let is_first = first-still chain c.requires.own c.requires.first
    (c.loop-place.invariant.0.made 0) in
    let steps = stretch-steps p g from to place (table c)
    c.next_in-to.ensures.onward (inside c) c.place_from.ensures.slots in
    let stretch =
    gone-within chain ((to - from) * meeting_steps p + 1) (passing_steps p (Slot g from) place) steps
    (gone-then chain own is_first c.next_in-to.ensures.gone c.place_from.ensures.made
    (c.place_from.ensures.passed c.args.first)) in
    let so_far =
    subst (λ place. HasGone p c.args.seat.now c.loop-place.seat c.args.first c.args.place.now place
    None (passing_steps p c.args.place.now place))
    c.in-Slot.is c.loop-place.invariant.0 in
    let few = fewer c in
    gone-within chain (passing_steps p c.args.place.now (Slot g from) + passing_steps p
    (Slot g from) place) (passing_steps p c.args.place.now place)
    (ways-add p c.args.place.now (Slot g from) place (no-more c) (omega (arith, few)))
    (gone-more chain c.requires.own c.requires.first so_far stretch)

pub returns-then-is_some-clause-gone : goal.returns-then-is_some-clause-gone
returns-then-is_some-clause-gone c = gone
    (goal.at.returns-then-is_some-clause-gone c).After-place_from

pub returns-then-is_some-clause-place : goal.returns-then-is_some-clause-place
returns-then-is_some-clause-place c =
    c.place_from.ensures.place c.args.first
    (was (goal.at.returns-then-is_some-clause-place c).After-place_from).0

pub returns-then-is_some-clause-ahead : goal.returns-then-is_some-clause-ahead
returns-then-is_some-clause-ahead c =
    let at = (goal.at.returns-then-is_some-clause-ahead c).After-place_from in
    let few = fewer at in
    let most = no-more at in
    if-shown c.next_in-to.result.shown (omega (arith, few, most))

pub loop-place-smaller : goal.loop-place-smaller
loop-place-smaller c =
    let p = c.args.chain.now.shape in
    subst (λ place. slots_ahead p c.place_from.result < slots_ahead p place) (sym c.in-Slot.is)
    (fewer (goal.at.loop-place-smaller c).After-place_from)

-- what isn't some is none
none-of : (shown : Option (ℕ × ℕ)) → is_some shown ≡ false → shown ≡ None
none-of None not = refl
none-of (Some pair) not = absurd (let both : true ≡ false = not in cc)

pub loop-place-preserved : goal.loop-place-preserved
loop-place-preserved c =
    let p = c.args.chain.now.shape in
    let at = (goal.at.loop-place-preserved c).After-place_from in
    let none = none-of c.next_in-to.result.shown (sym c.is_some.ensures ∙ c.if-is_some.false) in
    let few = fewer at in
    let most = no-more at in (
      subst (λ shown. HasGone p c.args.seat.now c.place_from.new.seat c.args.first c.args.place.now
          c.place_from.result shown (passing_steps p c.args.place.now c.place_from.result))
          none (gone at),
      c.place_from.ensures.place c.args.first (was at).0,
      omega (arith, few, most),
    )
