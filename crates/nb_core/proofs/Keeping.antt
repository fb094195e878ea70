-- Each step keeps the invariant, so it holds after every legal history.
use Rattle.std.proofs.Common.{◌≡◌, ◌≢◌, ◌∙◌, ℕ, ◌<◌, ◌≤◌, ◌⊎◌, suc, List, [], ◌∷◌, ap, sym, subst, refl, inl, inr, arith}
use Rattle.nb_core.specs.Plans.{Plan, IsPlan, generations_of}
use Rattle.nb_core.specs.Tables.{HasSlot, IsComplete, IsFinishedValue, IsSlot, IsUnprimed, Tables, path_slot, tables_at, HasContent}
use Rattle.nb_core.specs.History.{IsLegal, MayClaim, MayFinish}
use Rattle.nb_core.specs.States.{primed}
use Rattle.nb_core.proofs.Frames.{key-first, next-first, value-first}
use Rattle.nb_core.proofs.Lasting.{complete-stays, installed-stays, key-claimed, key-was, key-was_dead, next-stays, others-stay, put-unprimed, slot-stays, value-content, value-empty, value-final, value-primed_or_finished, value-primed, win-puts}
use Rattle.nb_core.proofs.Computed.{no_true}
use Rattle.nb_core.proofs.Sound.{HasGot, HasKey, IsClaimedRight, IsSound, MayBeAbove, claimed-same, complete-growing, empty-unclaimed, finished-not_empty, finished-value, next-within, no_slot-past, one_slot, primed-growing}
use Rattle.nb_core.proofs.Steps.{NextKept, Installs, Step, ValueStep, ValueKept, Wins, Copies, Primes, Finishes, step_of}
use Rattle.nb_core.specs.declared.numbers.TheConstants.{KEY_MAX}
use Rattle.nb_core.specs.declared.events.Event.{Event}
use Rattle.nb_core.specs.declared.states.KeyState.TheVariants.{Empty, Dead, Claimed}
use Rattle.nb_core.specs.declared.states.ValueState.{ValueState}
use Rattle.nb_core.specs.declared.states.ValueState.TheVariants.{Null, Tombstone, Live, PrimedNull, Primed, Finished}

-- ---- values

-- under a final value anything may stand above, and under an unprimed one nothing
final-above : (v above : ValueState) → IsFinishedValue v → MayBeAbove v above
final-above Null above final = no_true final
final-above Tombstone above final = no_true final
final-above (Live n) above final = no_true final
final-above (Primed n) above final = absurd (no_true final)
final-above _ above final = tt

pub above-primed : (v above : ValueState) → MayBeAbove v above → IsUnprimed v → ⊥
above-primed Null above may unprimed = may
above-primed Tombstone above may unprimed = may
above-primed (Live n) above may unprimed = may
above-primed _ above may unprimed = unprimed

-- the copy of a number may stand above it
copy-above : (v : ValueState) (n : ℕ) → (v ≡ Primed n) ⊎ (v ≡ Finished n) → MayBeAbove v (Live n)
copy-above v n (inl primed) = subst (λ x. MayBeAbove x (Live n)) (sym primed) refl
copy-above v n (inr finished) = subst (λ x. MayBeAbove x (Live n)) (sym finished) tt

-- a value that is neither null nor a primed one has a content
content-is : (v : ValueState) → v ≢ Null → v ≢ PrimedNull → HasContent v
content-is Null some unprimed = some refl
content-is PrimedNull some unprimed = unprimed refl
content-is _ some unprimed = tt

-- priming makes no finished number of a value that isn't primed
primed-not_finished : (v : ValueState) (n : ℕ) → IsUnprimed v → primed v ≢ Finished n
primed-not_finished Null n unprimed e = cc
primed-not_finished Tombstone n unprimed e = cc
primed-not_finished (Live m) n unprimed e = cc
primed-not_finished _ n unprimed e = unprimed

-- what may stand above a value still may after a step below
above-stays :
    {p : Plan} {t : Tables} {g i : ℕ} {to : ValueState} (above : ValueState) → ValueStep p t g i to
    → MayBeAbove (t.value g i) above
    → MayBeAbove to above
above-stays {t = t} {g = g} {i = i} above step may =
    elim (value-primed step (above-primed (t.value g i) above may)) [
      | inl e ↦ subst (λ v. MayBeAbove v above) (sym e) may
      | inr finishes ↦ subst (λ v. MayBeAbove v above) (sym finishes.2) tt
    ]

-- a slot with a key in a complete table is final after the step too
final-above_step :
    {p : Plan} {t : Tables} {g i : ℕ} {to : ValueState} (above : ValueState) → ValueStep p t g i to
    → IsFinishedValue (t.value g i)
    → MayBeAbove to above
final-above_step {t = t} {g = g} {i = i} above step final =
    subst (λ v. MayBeAbove v above) (sym (value-final step final))
    (final-above (t.value g i) above final)

-- ---- what an event needs

-- a key that is being claimed has no slot in the table
claim-first :
    (p : Plan) (t : Tables) → IsSound p t → (g i k : ℕ) → g < generations_of p → MayClaim p t g i k
    → HasSlot p t g k → ⊥
claim-first p t s g i k within may has =
    let path = may.way.path in
    let empty : t.key g (path_slot p g k path.distance) ≡ Empty = ap (t.key g) path.at
    ∙ may.empty in
    no_slot-past p t s g k path.distance within path.passed (empty-unclaimed empty)
    has.slot has.in_table has.is

-- the slot that is claimed is what a claimed one has to be
claim-right :
    (p : Plan) (t : Tables) (g i k : ℕ) → k ≤ KEY_MAX → MayClaim p t g i k
    → IsClaimedRight p t g i k
claim-right p t g i k fits may = record {
  key = fits;
  installed = may.installed;
  reached =
      may.way.path;
}

-- no slot of the key is claimed where the next table has one
pub claim-not_late :
    (p : Plan) (t : Tables) → IsSound p t → (g i k : ℕ) → suc g < generations_of p → IsSlot p g i
    → MayClaim p t g i k
    → HasSlot p t (suc g) k → ⊥
claim-not_late p t s g i k within slot may has =
    elim (s.below g k within has) [
      | inl below ↦ claim-first p t s g i k slot.0 may below
      | inr complete ↦ finished-not_empty p t s g i slot (complete i slot.1) may.empty
    ]

-- the value that a finished number was copied to is no primed null: its table has no next one yet
finishes-got :
    (p : Plan) (t : Tables) → IsSound p t → (g i : ℕ) → IsSlot p g i → (may : MayFinish p t g i)
    → HasGot p t (suc g) may.key
finishes-got p t s g i slot may =
    let next = primed-growing p t s g i slot (λ unprimed. subst IsUnprimed may.primed unprimed) in
    let copied = may.copied in
    let copied_slot : IsSlot p (suc g) copied.slot = (next-within p t s g next, copied.in_table) in
    record {
      slot = copied.slot;
      is_slot = copied_slot;
      is = copied.is;
      content = content-is (t.value (suc g) copied.slot) copied.some (λ primed_null.
          let above = primed-growing p t s (suc g) copied.slot copied_slot
          (λ unprimed. subst IsUnprimed primed_null unprimed) in
          no_true (subst IsFinishedValue may.primed
          (finished-value t g i may.key ((s.ready g above).1 i slot.1) may.claimed)));
    }

-- ---- a step keeps each part of the invariant

module _ (p : Plan) (t u : Tables) (plan : IsPlan p) (s : IsSound p t) (step : Step p t u) where
  -- next words are 0 or 1
  keeps-next_is : (g : ℕ) → (u.next g ≡ 0) ⊎ ((u.next g ≡ 1) × (suc g < generations_of p))
  keeps-next_is g =
      elim (step.next g) [
        | NextKept e ↦ elim (s.next_is g)
            [ inl none ↦ inl (e ∙ none) | inr some ↦ inr (e ∙ some.0, some.1) ]
        | Installs k may e ↦ inr (e, may.room)
      ]

  -- tables are installed in order
  keeps-ready : (g : ℕ) → u.next (suc g) ≡ 1 → (u.next g ≡ 1) × IsComplete p u g
  keeps-ready g is =
      elim (step.next (suc g)) [
        | NextKept e ↦
            let before = s.ready g (sym e ∙ is) in
            let within = next-within p t s g before.0 in
            (next-stays (step.next g) before.0, complete-stays p t u step g (omega arith) before.1)
        | Installs k may e ↦
            let room = may.room in
            let next : t.next g ≡ 1 = complete-growing p t plan s g (omega arith) may.ready in
            (next-stays (step.next g) next, complete-stays p t u step g (omega arith) may.ready)
      ]

  -- claimed slots
  keeps-claimed : (g i k : ℕ) → IsSlot p g i → u.key g i ≡ Claimed k → IsClaimedRight p u g i k
  keeps-claimed g i k slot is =
      let before : IsClaimedRight p t g i k = elim (key-was (step.key g i slot) is) [
        | inl was ↦ s.claimed g i k slot was
        | inr claims ↦ claim-right p t g i k claims.0 claims.1
      ] in
      let r = before.reached in
      let passed = others-stay p t u step plan g k r.distance slot.0 r.passed in
      record {
        key = before.key;
        installed = installed-stays p t u step g before.installed;
        reached = record {
          distance = r.distance;
          in_table = r.in_table;
          at = r.at;
          passed =
              passed;
        };
      }

  -- closed slots are in a table that has a next one,
  keeps-dead : (g i : ℕ) → IsSlot p g i → u.key g i ≡ Dead → u.next g ≡ 1
  keeps-dead g i slot is =
      elim (key-was_dead (step.key g i slot) is) [
        | inl was ↦ next-stays (step.next g) (s.dead g i slot was)
        | inr next ↦ next-stays (step.next g) next
      ]

  -- and so are primed values
  keeps-growing : (g i : ℕ) → IsSlot p g i → IsUnprimed (u.value g i) ⊎ (u.next g ≡ 1)
  keeps-growing g i slot =
      let stays = next-stays (step.next g) in
      elim (step.value g i slot) [
        | ValueKept e ↦ elim (s.growing g i slot) [
          | inl unprimed ↦ inl (subst IsUnprimed (sym e) unprimed)
          | inr next ↦ inr (stays next)
        ]
        | Wins a b c may e ↦ inl (subst IsUnprimed (sym e) (put-unprimed (win-puts may)))
        | Copies k n may e ↦ inl (subst IsUnprimed (sym e) tt)
        | Primes may e ↦ inr (stays may.growing)
        | Finishes may e ↦ inr
            (stays (primed-growing p t s g i slot
            (λ unprimed. subst IsUnprimed may.primed unprimed)))
      ]

  -- the key still has a slot, or the table is still complete
  below-stays : (g k : ℕ) → g < generations_of p → HasSlot p t g k ⊎ IsComplete p t g
      → HasSlot p u g k ⊎ IsComplete p u g
  below-stays g k within (inl has) = inl (slot-stays p t u step g k within has)
  below-stays g k within (inr complete) = inr (complete-stays p t u step g within complete)

  -- a key gets into the next table from this one, or once this one is complete
  keeps-below : (g k : ℕ) → suc g < generations_of p → HasSlot p u (suc g) k → HasSlot p u g k
      ⊎ IsComplete p u g
  keeps-below g k within has =
      elim (key-was (step.key (suc g) has.slot (within, has.in_table)) has.is) [
        | inl was ↦ below-stays g k (omega arith)
            (s.below g k within (record { slot = has.slot; in_table = has.in_table; is = was }))
        | inr claims ↦ elim (claims.1.way.reason) [
          | inl copier ↦ below-stays g k (omega arith) (inl copier)
          | inr fresh ↦ below-stays g k (omega arith) (inr fresh.0)
        ]
      ]

  -- a slot with a key has one after the step
  has_key-stays : (g i k : ℕ) → IsSlot p g i → t.key g i ≡ Claimed k → HasKey (u.key g i)
  has_key-stays g i k slot is = record { key = k; is = key-claimed (step.key g i slot) is }

  -- only claimed slots have a value
  keeps-bare : (g i : ℕ) → IsSlot p g i → (u.value g i ≡ Null) ⊎ HasKey (u.key g i)
  keeps-bare g i slot =
      elim (step.value g i slot) [
        | ValueKept e ↦ elim (s.bare g i slot)
            [ inl null ↦ inl (e ∙ null) | inr key ↦ inr (has_key-stays g i key.key slot key.is) ]
        | Wins a b c may e ↦ inr (has_key-stays g i may.key slot may.claimed)
        | Copies k n may e ↦ inr (has_key-stays g i k slot may.claimed)
        | Primes may e ↦ inr (has_key-stays g i may.key slot may.claimed)
        | Finishes may e ↦ inr (has_key-stays g i may.key slot may.claimed)
      ]

  -- both slots were the key's before
  keeps-above_both :
      (g i j k : ℕ) → IsSlot p g i → IsSlot p (suc g) j → t.key g i ≡ Claimed k
      → t.key (suc g) j ≡ Claimed k
      → (u.value (suc g) j ≡ Null) ⊎ MayBeAbove (u.value g i) (u.value (suc g) j)
  keeps-above_both g i j k i_slot j_slot i_is j_is =
      let below = step.value g i i_slot in
      let complete_below : t.next (suc g) ≡ 1 → IsFinishedValue (t.value g i) =
      λ next. finished-value t g i k ((s.ready g next).1 i i_slot.1) i_is in
      elim (step.value (suc g) j j_slot) [
        | ValueKept e ↦ elim (s.above g i j k i_slot j_slot i_is j_is) [
          | inl null ↦ inl (e ∙ null)
          | inr may ↦ inr (above-stays _ below (subst (MayBeAbove (t.value g i)) (sym e) may))
        ]
        | Wins a b c may e ↦
            let same : k ≡ may.key = claimed-same (sym j_is ∙ may.claimed) in
            inr (final-above_step _ below (may.settled i i_slot.1 (i_is ∙ ap Claimed same)))
        | Copies k' n may e ↦
            let same : k' ≡ k = claimed-same (sym may.claimed ∙ j_is) in
            let source = may.primed in
            let slot : source.0 ≡ i = one_slot p t s g source.0 i k (i_slot.0, source.1) i_slot
            (source.2 ∙ ap Claimed same) i_is in
            let primed : t.value g i ≡ Primed n = ap (t.value g) (sym slot) ∙ source.3 in
            inr (subst (MayBeAbove (u.value g i)) (sym e)
            (copy-above (u.value g i) n (value-primed_or_finished below (inl primed))))
        | Primes may e ↦ inr (final-above_step _ below (complete_below may.growing))
        | Finishes may e ↦
            let next = primed-growing p t s (suc g) j j_slot
            (λ unprimed. subst IsUnprimed may.primed unprimed) in
            inr (final-above_step _ below (complete_below next))
      ]

  -- a key's values in two tables
  keeps-above :
      (g i j k : ℕ) → IsSlot p g i → IsSlot p (suc g) j → u.key g i ≡ Claimed k
      → u.key (suc g) j ≡ Claimed k
      → (u.value (suc g) j ≡ Null) ⊎ MayBeAbove (u.value g i) (u.value (suc g) j)
  keeps-above g i j k i_slot j_slot i_is j_is =
      elim (key-was (step.key (suc g) j j_slot) j_is) [
        | inr claims ↦ inl (value-empty s j_slot (step.value (suc g) j j_slot) claims.1.empty)
        | inl j_was ↦ elim (key-was (step.key g i i_slot) i_is) [
          | inr claims ↦
              absurd (claim-not_late p t s g i k j_slot.0 i_slot claims.1
              (record { slot = j; in_table = j_slot.1; is = j_was }))
          | inl i_was ↦ keeps-above_both g i j k i_slot j_slot i_was j_was
        ]
      ]

  -- what a key got in a table it has there
  got-stays : (g k : ℕ) → HasGot p t g k → HasGot p u g k
  got-stays g k got = record {
    slot = got.slot;
    is_slot = got.is_slot;
    is = key-claimed (step.key g got.slot got.is_slot) got.is;
    content = value-content (step.value g got.slot got.is_slot) got.content;
  }

  -- finished numbers have been copied
  keeps-moved : (g i k n : ℕ) → IsSlot p g i → u.key g i ≡ Claimed k → u.value g i ≡ Finished n
      → HasGot p u (suc g) k
  keeps-moved g i k n slot is finished =
      elim (key-was (step.key g i slot) is) [
        | inr claims ↦
            absurd (let e : Finished n ≡ Null = sym finished
            ∙ value-empty s slot (step.value g i slot) claims.1.empty in cc)
        | inl was ↦ elim (step.value g i slot) [
          | ValueKept e ↦ got-stays (suc g) k (s.moved g i k n slot was (sym e ∙ finished))
          | Wins a b c may e ↦
              absurd (subst IsUnprimed (sym e ∙ finished) (put-unprimed (win-puts may)))
          | Copies q m may e ↦ absurd (let same : Live m ≡ Finished n = sym e ∙ finished in cc)
          | Primes may e ↦ absurd (primed-not_finished (t.value g i) n may.unprimed
              (sym e ∙ finished))
          | Finishes may e ↦
              let same : may.key ≡ k = claimed-same (sym may.claimed ∙ was) in
              got-stays (suc g) k (subst (HasGot p t (suc g)) same
              (finishes-got p t s g i slot may))
        ]
      ]

  -- all of it
  keeps-sound : IsSound p u
  keeps-sound = record {
    next_is = keeps-next_is;
    ready = keeps-ready;
    claimed = keeps-claimed;
    dead = keeps-dead;
    growing = keeps-growing;
    bare = keeps-bare;
    below = keeps-below;
    above = keeps-above;
    moved = keeps-moved;
  }

-- ---- the invariant

-- tables with nothing in them
record IsBlank (p : Plan) (t : Tables) : Type 0 where
  pub key : (g i : ℕ) → IsSlot p g i → t.key g i ≡ Empty
  pub value : (g i : ℕ) → IsSlot p g i → t.value g i ≡ Null
  pub next : (g : ℕ) → t.next g ≡ 0

-- such tables are sound
blank-sound : (p : Plan) (t : Tables) → IsBlank p t → IsSound p t
blank-sound p t b = record {
  next_is = λ g. inl (b.next g);
  ready = λ g next. absurd (let e = b.next (suc g) in omega arith);
  claimed = λ g i k slot is. absurd (empty-unclaimed (b.key g i slot) k is);
  dead = λ g i slot is. absurd (let e : Empty ≡ Dead = sym (b.key g i slot) ∙ is in cc);
  growing = λ g i slot. inl (subst IsUnprimed (sym (b.value g i slot)) tt);
  bare = λ g i slot. inl (b.value g i slot);
  below = λ g k within has. absurd (empty-unclaimed (b.key (suc g) has.slot (within, has.in_table))
      k has.is);
  above = λ g i j k i_slot j_slot i_is j_is. absurd (empty-unclaimed (b.key g i i_slot) k i_is);
  moved = λ g i k n slot is finished. absurd (empty-unclaimed (b.key g i slot) k is);
}

-- so the tables of each legal history are
pub sound : (p : Plan) (h : List Event) → IsPlan p → IsLegal p h → IsSound p (tables_at p h)
sound p [] plan legal =
    blank-sound p (tables_at p []) (record {
      key = key-first p plan;
      value = value-first p plan;
      next = next-first p plan;
    })
sound p (e ∷ h) plan legal = keeps-sound p (tables_at p h) (tables_at p (e ∷ h)) plan
    (sound p h plan legal.0) (step_of p e h plan legal)
