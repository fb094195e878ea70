use Rattle.std.proofs.Common.{◌≡◌, ◌∙◌, ◌+◌, ◌-◌, ◌<◌, ◌≢◌, None, Some, ap, mod-lt, refl, sym, subst, arith, rules}
use Rattle.std.proofs.lemmas.Bool.{eq-eqb}
use Rattle.std.specs.Bool.{IsTrue}
use Rattle.std.proofs.lemmas.Nat.{pow_pos}
use Rattle.nb_core.specs.History.{key_of_call}
use Rattle.nb_core.specs.Paths.{slot_on}
use Rattle.nb_core.specs.Tables.{AreOthers, IsOnPath, path_slot}
use Rattle.nb_core.specs.Plans.{size_of}
use Rattle.nb_core.specs.declared.slot_paths.Slot.{Slot}
use Rattle.nb_core.specs.declared.states.KeyState.{KeyState}
use Rattle.nb_core.specs.declared.states.KeyState.TheVariants.{Claimed, Dead, Empty}
use Rattle.nb_table.specs.Events.{read, shown_by_key}
use Rattle.nb_table.specs.Chains.{Extended, seen_by}
use Rattle.nb_table.specs.Conditions.{IsReached}
use Rattle.nb_map.specs.Calling.{HasMade}
use Rattle.nb_map.specs.inside.Climbing.{IsSlotOf}
use Rattle.nb_map.proofs.OnPath.{slot-of_path, slots-of_path}
use Rattle.nb_map.proofs.Made.{made-none, made-own, made-within}
use Rattle.nb_map.proofs.Rungs.{at-stays}
use Rattle.nb_map.proofs.Searched.{dead-next, on-path, others-more, read-end, read-start, shown-own, walked, walked-on}
use Rattle.nb_map.proofs.steps.search.probe.Goals as goal
use Rattle.nb_map.proofs.steps.search.probe.Goals.{After-is}
use Rattle.nb_table.proofs.Theorems.{steps_add_up}

-- the slot that is looked at
place :
    (c : After-is)
    → c.slot-at.result ≡ slot_on c.args.chain.now.shape c.args.rung.g (key_of_call c.args.call.now)
    c.loop-distance.distance
place c =
    (slot-of_path c.shape.ensures c.key-key.ensures c.path-path.ensures c.slot-at.ensures).is

-- what its load showed
load :
    (c : After-is) (s : KeyState) → c.load_key_word_at-word.result ≡ s
    → Extended c.args.chain.now.shape c.loop-distance.seat c.load_key_word_at-word.new.seat
    (read c.loop-distance.seat.number c.args.call.now
    (shown_by_key c.args.chain.now.shape c.args.rung.g
    (path_slot c.args.chain.now.shape c.args.rung.g (key_of_call c.args.call.now)
    c.loop-distance.distance)
    s (key_of_call c.args.call.now))) 1
load c s is =
    let p = c.args.chain.now.shape in
    let k = key_of_call c.args.call.now in
    subst (λ s. Extended p c.loop-distance.seat c.load_key_word_at-word.new.seat
    (read c.loop-distance.seat.number c.args.call.now
    (shown_by_key p c.args.rung.g (path_slot p c.args.rung.g k c.loop-distance.distance) s k)) 1)
    is
    (subst (λ (at : Slot). Extended p c.loop-distance.seat c.load_key_word_at-word.new.seat
    (read c.loop-distance.seat.number c.args.call.now
    (shown_by_key p at.g at.i c.load_key_word_at-word.result k)) 1)
    (place c) c.load_key_word_at-word.ensures.grows)

-- and what the seat has seen of it then
found :
    (c : After-is) (s : KeyState) → c.load_key_word_at-word.result ≡ s
    → (seen_by c.args.chain.now.shape c.load_key_word_at-word.new.seat).key c.args.rung.g
    (path_slot c.args.chain.now.shape c.args.rung.g (key_of_call c.args.call.now)
    c.loop-distance.distance)
    ≡ s
found c s is =
    subst (λ (at : Slot). (seen_by c.args.chain.now.shape c.load_key_word_at-word.new.seat).key at.g at.i
    ≡ s) (place c)
    (c.load_key_word_at-word.ensures.found ∙ is)

pub loop-distance-init : goal.loop-distance-init
loop-distance-init c =
    let p = c.args.chain.now.shape in
    let none = read-start p c.args.rung.g c.args.call.now c.args.rung.from c.requires.at.start in (
      subst (λ made. HasMade p c.args.call.now c.args.seat.now c.args.seat.now made
          (c.args.rung.from - c.args.rung.from)) (sym none)
          (made-within 0 (c.args.rung.from - c.args.rung.from) (omega arith)
          (made-none c.args.chain.now c.args.call.now c.args.seat.now c.requires.at.own)),
      c.requires.at.others,
    )

pub load_key_word_at-word-requires-clause-own : goal.load_key_word_at-word-requires-clause-own
load_key_word_at-word-requires-clause-own c =
    made-own c.args.chain.now c.requires.at.own c.loop-distance.invariant.0

pub load_key_word_at-word-requires-clause-slot : goal.load_key_word_at-word-requires-clause-slot
load_key_word_at-word-requires-clause-slot c =
    (slot-of_path c.shape.ensures c.key-key.ensures c.path-path.ensures c.slot-at.ensures).placed

pub load_key_word_at-word-requires-clause-reached : goal.load_key_word_at-word-requires-clause-reached
load_key_word_at-word-requires-clause-reached c =
    let chain = c.args.chain.now in
    let here = (at-stays chain c.requires.at c.loop-distance.invariant.0).reached in
    subst (λ (at : Slot). IsReached chain.shape (seen_by chain.shape c.loop-distance.seat) at.g
    (key_of_call c.args.call.now))
    (sym (slot-of_path c.shape.ensures c.key-key.ensures c.path-path.ensures c.slot-at.ensures).is) here

pub load_key_word_at-word-requires-clause-on_path : goal.load_key_word_at-word-requires-clause-on_path
load_key_word_at-word-requires-clause-on_path c =
    let chain = c.args.chain.now in
    let so_far = c.loop-distance.invariant in
    let below : c.loop-distance.distance < c.slots-distance-end.result = search rules in
    let near : c.loop-distance.distance < size_of chain.shape c.args.rung.g =
    subst (λ n. c.loop-distance.distance < n)
    (slots-of_path c.shape.ensures c.key-key.ensures c.path-path.ensures c.slots-distance-end.ensures) below in
    subst (λ (at : Slot). IsOnPath chain.shape (seen_by chain.shape c.loop-distance.seat) at.g at.i
    (key_of_call c.args.call.now))
    (sym (slot-of_path c.shape.ensures c.key-key.ensures c.path-path.ensures c.slot-at.ensures).is)
    (on-path chain.shape (seen_by chain.shape c.loop-distance.seat)
    c.args.rung.g _ _ c.loop-distance.distance (key_of_call c.args.call.now) refl near refl so_far.1)

-- ---- at the key's own slot

mine :
    (c : After-is) → IsTrue c.is.result
    → c.load_key_word_at-word.result ≡ Claimed (key_of_call c.args.call.now)
mine c held = c.is.ensures.yes held ∙ ap Claimed c.key-key.ensures

pub returns-then-is-clause-made : goal.returns-then-is-clause-made
returns-then-is-clause-made c =
    let chain = c.args.chain.now in
    let p = chain.shape in
    let k = key_of_call c.args.call.now in
    let so_far = c.loop-distance.invariant in
    let table = c.requires.at.table in
    let there = (goal.at.returns-then-is-clause-made c).After-is in
    let below : c.loop-distance.distance < c.slots-distance-end.result = search rules in
    let near : c.loop-distance.distance < size_of p c.args.rung.g =
    subst (λ n. c.loop-distance.distance < n)
    (slots-of_path c.shape.ensures c.key-key.ensures c.path-path.ensures c.slots-distance-end.ensures) below in
    let none = shown-own p c.args.rung.g (path_slot p c.args.rung.g k c.loop-distance.distance) k k k
    refl (sym (eq-eqb k k refl)) in
    made-within (c.loop-distance.distance + 1 - c.args.rung.from)
    (size_of p c.args.rung.g - c.args.rung.from) (omega (arith, near))
    (walked chain c.args.rung.g table c.loop-distance.distance c.args.rung.from None near
    c.loop-distance.auto.distance
    c.requires.at.own so_far.0
    (subst (λ shown. Extended p c.loop-distance.seat c.load_key_word_at-word.new.seat
    (read c.loop-distance.seat.number c.args.call.now shown) 1) none
    (load there (Claimed k) (mine there c.if-is.true))))

pub returns-then-is-clause-ends : goal.returns-then-is-clause-ends
returns-then-is-clause-ends c =
    let p = c.args.chain.now.shape in
    let g = c.args.rung.g in
    let k = key_of_call c.args.call.now in
    let there = (goal.at.returns-then-is-clause-ends c).After-is in
    subst (λ (at : Slot). IsSlotOf p (seen_by p c.load_key_word_at-word.new.seat) g at.i k)
    (sym (place there)) (
      mod-lt (k + c.loop-distance.distance) (pow_pos _),
      found there (Claimed k) (mine there c.if-is.true),
    )

-- ---- at an empty one

pub returns-in-Empty-clause-made : goal.returns-in-Empty-clause-made
returns-in-Empty-clause-made c =
    let chain = c.args.chain.now in
    let below : c.loop-distance.distance < c.slots-distance-end.result = search rules in
    let near : c.loop-distance.distance < size_of chain.shape c.args.rung.g =
    subst (λ n. c.loop-distance.distance < n)
    (slots-of_path c.shape.ensures c.key-key.ensures c.path-path.ensures c.slots-distance-end.ensures) below in
    walked chain c.args.rung.g c.requires.at.table c.loop-distance.distance c.args.rung.from
    (Some None) near c.loop-distance.auto.distance
    c.requires.at.own c.loop-distance.invariant.0
    (load (goal.at.returns-in-Empty-clause-made c).After-is Empty (sym c.state.ensures ∙ c.in-Empty.is))

-- what is known of the path after the load
still :
    (c : After-is)
    → AreOthers c.args.chain.now.shape
    (seen_by c.args.chain.now.shape c.load_key_word_at-word.new.seat) c.args.rung.g
    (key_of_call c.args.call.now) c.loop-distance.distance
still c =
    let chain = c.args.chain.now in
    let so_far = c.loop-distance.invariant in
    (steps_add_up.stays (made-own chain c.requires.at.own so_far.0)
    (steps_add_up.one c.load_key_word_at-word.ensures.grows)).others
    c.args.rung.g (key_of_call c.args.call.now) c.loop-distance.distance c.requires.at.table
    so_far.1

pub returns-in-Empty-clause-ends : goal.returns-in-Empty-clause-ends
returns-in-Empty-clause-ends c =
    let there = (goal.at.returns-in-Empty-clause-ends c).After-is in
    let below : c.loop-distance.distance < c.slots-distance-end.result = search rules in
    let near : c.loop-distance.distance < size_of c.args.chain.now.shape c.args.rung.g =
    subst (λ n. c.loop-distance.distance < n)
    (slots-of_path c.shape.ensures c.key-key.ensures c.path-path.ensures c.slots-distance-end.ensures) below in
    (near, still there, found there Empty (sym c.state.ensures ∙ c.in-Empty.is))

-- ---- at a closed one

pub returns-in-Dead-clause-made : goal.returns-in-Dead-clause-made
returns-in-Dead-clause-made c =
    let chain = c.args.chain.now in
    let below : c.loop-distance.distance < c.slots-distance-end.result = search rules in
    let near : c.loop-distance.distance < size_of chain.shape c.args.rung.g =
    subst (λ n. c.loop-distance.distance < n)
    (slots-of_path c.shape.ensures c.key-key.ensures c.path-path.ensures c.slots-distance-end.ensures) below in
    made-within (c.loop-distance.distance + 1 - c.args.rung.from)
    (size_of chain.shape c.args.rung.g - c.args.rung.from) (omega (arith, near))
    (walked chain c.args.rung.g c.requires.at.table c.loop-distance.distance c.args.rung.from None
    near c.loop-distance.auto.distance
    c.requires.at.own c.loop-distance.invariant.0
    (load (goal.at.returns-in-Dead-clause-made c).After-is Dead (sym c.state.ensures ∙ c.in-Dead.is)))

pub returns-in-Dead-clause-ends : goal.returns-in-Dead-clause-ends
returns-in-Dead-clause-ends c =
    let chain = c.args.chain.now in
    let p = chain.shape in
    let g = c.args.rung.g in
    let k = key_of_call c.args.call.now in
    let there = (goal.at.returns-in-Dead-clause-ends c).After-is in
    let below : c.loop-distance.distance < c.slots-distance-end.result = search rules in
    let near : c.loop-distance.distance < size_of p g =
    subst (λ n. c.loop-distance.distance < n)
    (slots-of_path c.shape.ensures c.key-key.ensures c.path-path.ensures c.slots-distance-end.ensures) below in
    let own = made-own chain c.requires.at.own c.loop-distance.invariant.0 in
    let is = found there Dead (sym c.state.ensures ∙ c.in-Dead.is) in (
      (c.loop-distance.distance, near, still there, is),
      dead-next chain c.load_key_word_at-word.new.seat
          (steps_add_up.own own (steps_add_up.one c.load_key_word_at-word.ensures.grows))
          g (path_slot p g k c.loop-distance.distance)
          (c.requires.at.table, mod-lt (k + c.loop-distance.distance) (pow_pos _)) is,
    )

-- ---- behind another key's

pub loop-distance-preserved : goal.loop-distance-preserved
loop-distance-preserved c =
    let chain = c.args.chain.now in
    let p = chain.shape in
    let g = c.args.rung.g in
    let k = key_of_call c.args.call.now in
    let so_far = c.loop-distance.invariant in
    let table = c.requires.at.table in
    let there = (goal.at.loop-distance-preserved c).After-is in
    let below : c.loop-distance.distance < c.slots-distance-end.result = search rules in
    let near : c.loop-distance.distance < size_of p g =
    subst (λ n. c.loop-distance.distance < n)
    (slots-of_path c.shape.ensures c.key-key.ensures c.path-path.ensures c.slots-distance-end.ensures) below in
    let own = made-own chain c.requires.at.own so_far.0 in
    let is = sym c.state.ensures ∙ c.in-Claimed.is in
    let differs : c.in-Claimed.field-0 ≢ k =
    (λ same. c.is.ensures.no c.if-is.false (is ∙ ap Claimed (same ∙ sym c.key-key.ensures))) in
    let lasting = steps_add_up.stays own (steps_add_up.one c.load_key_word_at-word.ensures.grows) in (
      walked-on chain g table c.loop-distance.distance c.args.rung.from
          (path_slot p g k c.loop-distance.distance) k
          c.in-Claimed.field-0 near c.loop-distance.auto.distance c.requires.at.own refl refl
          differs so_far.0 (load there (Claimed c.in-Claimed.field-0) is),
      others-more p _ _ lasting g k c.loop-distance.distance _
          c.in-Claimed.field-0 table so_far.1 refl
          (found there (Claimed c.in-Claimed.field-0) is) differs,
    )

pub returns-clause-made : goal.returns-clause-made
returns-clause-made c =
    let chain = c.args.chain.now in
    let so_far = c.loop-distance.invariant in
    let over : c.loop-distance.distance ≡ c.slots-distance-end.result = search rules in
    let end : c.loop-distance.distance ≡ size_of chain.shape c.args.rung.g =
    over ∙ slots-of_path c.shape.ensures c.key-key.ensures c.path-path.ensures c.slots-distance-end.ensures in
    made-within (c.loop-distance.distance - c.args.rung.from)
    (size_of chain.shape c.args.rung.g - c.args.rung.from) (omega (arith, end))
    (subst (λ made. HasMade chain.shape c.args.call.now c.args.seat.now c.loop-distance.seat made
    (c.loop-distance.distance - c.args.rung.from))
    (read-end chain.shape c.args.rung.g c.args.call.now c.loop-distance.distance end) so_far.0)

pub returns-clause-ends : goal.returns-clause-ends
returns-clause-ends c =
    let chain = c.args.chain.now in
    let so_far = c.loop-distance.invariant in
    let over : c.loop-distance.distance ≡ c.slots-distance-end.result = search rules in
    let end : c.loop-distance.distance ≡ size_of chain.shape c.args.rung.g =
    over ∙ slots-of_path c.shape.ensures c.key-key.ensures c.path-path.ensures c.slots-distance-end.ensures in
    subst (λ d. AreOthers chain.shape (seen_by c.args.chain.now.shape c.loop-distance.seat)
    c.args.rung.g (key_of_call c.args.call.now) d) end so_far.1
