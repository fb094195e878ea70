-- What a seat may do to a value, and what it finds there.
use Rattle.std.proofs.Common.{◌≡◌, ◌∙◌, ℕ, zero, suc, ◌%◌, ◌<◌, ◌⊎◌, Bool, true, false, cond, eqb, List, [], ◌∷◌, ◌++◌, drop, length, slice_index, slice_set, bit_or, Some, ap, sym, subst, refl, inl, inr, arith}
use Rattle.std.proofs.lemmas.Bool.{eq-eqb, eqb-true, eqb-false, ne_eqb}
use Rattle.std.proofs.lemmas.List.{get_or-set_same}
use Rattle.std.specs.Option.{unwrap_or}
use Rattle.nb_core.specs.Plans.{Plan, IsPlan, Value, generations_of, value_place, word_count}
use Rattle.nb_core.specs.States.{IsKeyState, IsValueState, IsValueWord, primed, value_in_word, value_state, value_word}
use Rattle.nb_core.specs.Tables.{IsInstalled, IsSlot, IsUnprimed, Tables, tables_at, words_of, IsPrimedOrFinished}
use Rattle.nb_core.specs.History.{HasValue, IsLegal, IsPrimedBelow, MayPrime}
use Rattle.nb_core.specs.Laws.{Lasts}
use Rattle.nb_core.specs.declared.events.Event.{Event}
use Rattle.nb_core.specs.declared.events.Event.TheVariants.{CopyIn, Prime, Finish}
use Rattle.nb_core.specs.declared.states.KeyState.TheVariants.{Claimed}
use Rattle.nb_core.specs.declared.states.ValueState.{ValueState}
use Rattle.nb_core.specs.declared.states.ValueState.TheVariants.{Null, Tombstone, Live, Primed, Finished}
use Rattle.nb_table.specs.Chains.{Extended, SeenBy, seen_before, seen_by}
use Rattle.nb_table.specs.Conditions.{HasSource, IsCopied}
use Rattle.nb_table.specs.Events.{only}
use Rattle.nb_table.proofs.Events.{copy_events, finish_events, is_primed_number, prime_events}
use Rattle.nb_table.specs.Steps.{Can, Stepped}
use Rattle.nb_table.proofs.Following.{if-follows, none-follows, one-follows}
use Rattle.nb_core.proofs.Theorems.{beginnings_are_legal, codings, lawful_words, linked, moved, one_slot, indices_are_distinct, seen_lasts}

-- ---- words

-- a primed value's number is the map's, if the value's is
primed-range : (v : ValueState) → IsValueState v → IsValueState (primed v)
primed-range (Live n) range = range
primed-range (Primed n) range = range
primed-range (Finished n) range = range
primed-range _ range = tt

-- to prime a primed value again changes nothing
primed-again : (v : ValueState) → (IsUnprimed v → ⊥) → primed v ≡ v
primed-again Null other = absurd (other tt)
primed-again Tombstone other = absurd (other tt)
primed-again (Live n) other = absurd (other tt)
primed-again _ other = refl

-- the word holds this number, primed or finished
abbrev Holds : ℕ → ℕ → Type 0
Holds x n = (value_in_word x ≡ Primed n)
    ⊎ (value_in_word x ≡ Finished n)

module _ where
  -- the words of unprimed values are even, and no others
  evens : (x : ℕ) (v : ValueState) → value_state x ≡ Some v → (IsUnprimed v → x % 2 ≡ 0)
      × (x % 2 ≡ 0 → IsUnprimed v)
  evens x v says =
      let is = (codings.word_of_state x v says).0 in
      subst (λ y. (IsUnprimed v → y % 2 ≡ 0) × (y % 2 ≡ 0 → IsUnprimed v)) (sym is) (codings.even v)

  -- the word of a value, primed, stands for the primed value
  primed-says : (x : ℕ) (v : ValueState) → value_state x ≡ Some v
      → value_state (bit_or x 1) ≡ Some (primed v)
  primed-says x v says =
      let is = codings.word_of_state x v says in
      ap (λ y. value_state (bit_or y 1)) is.0 ∙ ap value_state (codings.prime v)
      ∙ codings.state_of_word (primed v) (primed-range v is.1)

  -- and that of a primed number, finished, for the finished one
  finished-says : (x n : ℕ) → value_state x ≡ Some (Primed n)
      → value_state (bit_or x 2) ≡ Some (Finished n)
  finished-says x n says =
      let is = codings.word_of_state x (Primed n) says in
      ap (λ y. value_state (bit_or y 2)) is.0 ∙ ap value_state (codings.finish n)
      ∙ codings.state_of_word (Finished n) is.1

  -- to set the lowest bit in the word of a value that isn't unprimed changes nothing
  primed-kept : (x : ℕ) → IsValueWord x → (x % 2 ≡ 0 → ⊥) → bit_or x 1 ≡ x
  primed-kept x word odd =
      let is = (codings.word_of_state x word.state word.decodes).0 in
      let again = primed-again word.state
      (λ unprimed. odd ((evens x word.state word.decodes).0 unprimed)) in
      ap (λ y. bit_or y 1) is ∙ codings.prime word.state ∙ ap value_word again ∙ sym is

  -- the word of a value that was seen
  word-seen :
      (x : ℕ) (v : ValueState) → value_in_word x ≡ v → IsValueWord x
      → (x ≡ value_word v) × IsValueState v
  word-seen x v value word =
      codings.word_of_state x v (word.decodes
      ∙ ap Some (sym (ap (λ o. unwrap_or o Null) word.decodes) ∙ value))

  -- a number that is seen primed or finished, in a word of a primed one, is primed
  held-primed : (x n : ℕ) → Holds x n → is_primed_number (value_in_word x) ≡ true
      → value_in_word x ≡ Primed n
  held-primed x n held is =
      elim held [
        | inl is_primed ↦ is_primed
        | inr is_finished ↦
            let e : false ≡ true = sym (ap is_primed_number is_finished) ∙ is in
            absurd (cc)
      ]

  -- and in another word it is finished: to set the bit for that changes nothing
  finished-kept : (x n : ℕ) → Holds x n → IsValueWord x
      → is_primed_number (value_in_word x) ≡ false → bit_or x 2 ≡ x
  finished-kept x n held word other =
      elim held [
        | inl is_primed ↦
            let e : true ≡ false = sym (ap is_primed_number is_primed) ∙ other in
            absurd (cc)
        | inr is_finished ↦
            let is = (word-seen x (Finished n) is_finished word).0 in
            ap (λ y. bit_or y 2) is ∙ codings.finish_again n ∙ sym is
      ]

-- ---- steps

-- above a primed or finished number there is a next table
held-below :
    (p : Plan) (t : Tables) (g i n : ℕ) → IsSlot p g i → IsPrimedOrFinished t g i n
    → IsUnprimed (t.value g i) ⊎ IsInstalled t (suc g) → IsInstalled t (suc g)
held-below p t g i n slot held linked =
    elim linked [
      | inl unprimed ↦ elim held [
        | inl is_primed ↦ absurd (subst IsUnprimed is_primed unprimed)
        | inr is_finished ↦ absurd (subst IsUnprimed is_finished unprimed)
      ]
      | inr growing ↦ growing
    ]

-- the number below is there still
source-lasts :
    (p : Plan) (t u : Tables) → Lasts p t u → (g k n : ℕ) → g < generations_of p
    → HasSource p t g k n
    → HasSource p u g k n
source-lasts p t u still zero k n in_table source = absurd source
source-lasts p t u still (suc g) k n in_table (j, within, claimed, held) =
    let slot : IsSlot p g j = (omega arith, within) in
    (j, within, still.claimed g j k slot claimed, still.primed_or_finished g j n slot held)

-- and is only primed as long as the key has no value above
still-primed :
    (p : Plan) (t : Tables) (g i k n : ℕ) → IsSlot p g i → t.key g i ≡ Claimed k
    → t.value g i ≡ Null
    → ((f j : ℕ) → IsSlot p f j → t.key f j ≡ Claimed k → t.value f j ≡ Finished n
    → HasValue p t (suc f) k)
    → ((j : ℕ) → IsSlot p g j → t.key g j ≡ Claimed k → j ≡ i) → HasSource p t g k n
    → IsPrimedBelow p t g k n
still-primed p t zero i k n slot claimed null moved one source = absurd source
still-primed p t (suc g) i k n slot claimed null moved one (j, within, below, held) =
    elim held [
      | inl is_primed ↦ (j, within, below, is_primed)
      | inr is_finished ↦
          let value = moved g j (omega (arith, slot.0), within) below is_finished in
          let same = one value.slot (slot.0, value.in_table) value.is in
          absurd (value.some (subst (λ s. t.value (suc g) s ≡ Null) (sym same) null))
    ]

module _ where
  -- a value whose word is even may be primed
  may-prime :
      (t : Tables) (g i x : ℕ) → t.next g ≡ 1 → (k : ℕ) × (t.key g i ≡ Claimed k)
      → t.value g i ≡ value_in_word x
      → IsValueWord x → x % 2 ≡ 0 → MayPrime t g i
  may-prime t g i x growing claimed value word even =
      let at : t.value g i ≡ word.state = value ∙ ap (λ o. unwrap_or o Null) word.decodes in
      record {
        growing = growing;
        key = claimed.0;
        claimed = claimed.1;
        unprimed = subst IsUnprimed (sym at) ((evens x word.state word.decodes).1 even);
      }

  -- A claimed slot's value may be primed, once there is a next table.
  pub can-prime :
      (p : Plan) → (number : ℕ) (seen : List Event) (g i : ℕ) → IsSlot p g i
      → IsInstalled (tables_at p seen) (suc g) → (k : ℕ) × ((tables_at p seen).key g i ≡ Claimed k)
      → Can p (prime_events number g i) number seen (value_place p g i) (λ found. bit_or found 1)
  can-prime p number seen g i slot growing claimed plan seated others not_own legal =
      let h = others ++ seen in
      let index = value_place p g i in
      let found = slice_index (words_of p h) index in
      let still = seen_lasts p plan others seen legal in
      let word = (lawful_words p plan h legal).values g i slot in
      if-follows p (eqb (found % 2) 0) (Prime number g i) number index (bit_or found 1) h
      (λ even. one-follows p (Prime number g i) number index (bit_or found 1) h (
        legal,
        (seated, slot),
        may-prime (tables_at p h) g i found (still.installed (suc g) growing)
            (claimed.0, still.claimed g i claimed.0 slot claimed.1) refl word
            (eqb-true (found % 2) 0 even),
        tt,
      ) refl refl)
      (λ odd. none-follows p number index (bit_or found 1) h legal
      (primed-kept found word (eqb-false (found % 2) 0 odd)))

  -- A number that is seen primed or finished may be finished, once its key has a value in the next
  -- table.
  pub can-finish :
      (p : Plan) → (number : ℕ) (seen : List Event) (g i : ℕ) → IsSlot p g i
      → IsCopied p (tables_at p seen) g i
      → Can p (finish_events number g i) number seen (value_place p g i) (λ found. bit_or found 2)
  can-finish p number seen g i slot copied plan seated others not_own legal =
      let n = copied.number in
      let h = others ++ seen in
      let t = tables_at p h in
      let index = value_place p g i in
      let found = slice_index (words_of p h) index in
      let still = seen_lasts p plan others seen legal in
      let link = linked p plan h legal in
      let word = (lawful_words p plan h legal).values g i slot in
      let held = still.primed_or_finished g i n slot copied.held in
      let above = link.within (suc g) (held-below p t g i n slot held (link.primed g i slot)) in
      if-follows p (is_primed_number (value_in_word found)) (Finish number g i) number index
      (bit_or found 2) h
      (λ is. one-follows p (Finish number g i) number index (bit_or found 2) h (
        legal,
        (seated, slot),
        record {
          key = copied.key;
          number = n;
          claimed = still.claimed g i copied.key slot copied.claimed;
          primed = held-primed found n held is;
          copied = still.has_value (suc g) copied.key above copied.copied;
        },
        tt,
      ) refl refl)
      (λ other. none-follows p number index (bit_or found 2) h legal
      (finished-kept found n held word other))

  -- A number that is seen primed or finished below may be copied to its key's slot, where the value
  -- is null.
  pub can-copy :
      (p : Plan) → (number : ℕ) (seen : List Event) (g i k n word : ℕ)
      → IsSlot p g i → value_state word ≡ Some (Live n) → (tables_at p seen).key g i ≡ Claimed k
      → HasSource p (tables_at p seen) g k n
      → Can p (copy_events number g i k n) number seen (value_place p g i)
      (λ found. cond (eqb found 0) word found)
  can-copy p number seen g i k n word slot says claimed source plan seated others not_own legal =
      let h = others ++ seen in
      let t = tables_at p h in
      let index = value_place p g i in
      let found = slice_index (words_of p h) index in
      let new = cond (eqb found 0) word found in
      let word_is = codings.word_of_state word (Live n) says in
      let still = seen_lasts p plan others seen legal in
      let claimed' = still.claimed g i k slot claimed in
      if-follows p (eqb found 0) (CopyIn number g i k n) number index new h
      (λ same.
      let null = ap value_in_word (eqb-true found 0 same) in
      one-follows p (CopyIn number g i k n) number index new h (
        legal,
        (
          seated,
          slot,
          subst IsKeyState claimed' ((lawful_words p plan h legal).keys g i slot),
          word_is.1,
        ),
        record {
          claimed = claimed';
          null = null;
          primed = still-primed p t g i k n slot claimed' null (λ f j. moved p plan h legal f j k n)
              (λ j j_slot j_claimed. one_slot p plan h legal g j i k j_slot slot j_claimed claimed')
              (source-lasts p (tables_at p seen) t still g k n slot.0 source);
        },
        tt,
      ) (ap (slice_set (words_of p h) index)
      (sym (ap (λ b. cond b word found) same ∙ word_is.0))) refl)
      (λ other. none-follows p number index new h legal (ap (λ b. cond b word found) other))

-- ---- what was found

-- the word of a slot's value is among the chain's
pub value-within :
    (p : Plan) → IsPlan p → (g i : ℕ) → IsSlot p g i → value_place p g i < word_count p
value-within p plan g i slot = (indices_are_distinct p plan).below (Value g i) slot

-- A step on a slot's value word that found this word.
module _
    (p : Plan) (plan : IsPlan p) (events : ℕ → List Event)
    (before : SeenBy) (found : ℕ) (after : SeenBy) (g i : ℕ) (slot : IsSlot p g i)
    (step : Stepped p events (value_place p g i) before found after) where
  -- the history that it found is legal
  met-legal : IsLegal p (step.grows.others ++ before.seen)
  met-legal = beginnings_are_legal p (events found) (step.grows.others ++ before.seen)
      (subst (IsLegal p) step.grows.seen step.grows.legal)

  -- the word stands for a state
  pub found-is : IsValueWord found
  found-is = subst IsValueWord step.word
      ((lawful_words p plan (step.grows.others ++ before.seen) met-legal).values g i slot)

-- A step on a slot's value word that is an event by a test of the word.
module _
    (p : Plan) (plan : IsPlan p) (test : ℕ → Bool) (e : Event)
    (before : SeenBy) (found : ℕ) (after : SeenBy) (g i : ℕ) (slot : IsSlot p g i)
    (step : Stepped p (λ x. only (test x) e) (value_place p g i) before found after) where
  -- what is seen of the value after the events that make this word
  then-value :
      (changed : Bool) → test found ≡ changed → (new : ℕ) (v : ValueState)
      → slice_index (words_of p (only changed e ++ (step.grows.others ++ before.seen)))
      (value_place p g i) ≡ new
      → value_state new ≡ Some v → Extended p before after (only changed e) 1
      × ((seen_by p after).value g i ≡ v)
  then-value changed is new v word says = (
    subst (λ b. Extended p before after (only b e) 1) is step.grows,
    ap (λ s. (tables_at p s).value g i)
        (step.grows.seen ∙ ap (λ b. only b e ++ (step.grows.others ++ before.seen)) is)
        ∙ ap value_in_word word ∙ ap (λ o. unwrap_or o Null) says,
  )

  -- where the test fails there is no event, and the value is as it was
  pub value-kept :
      test found ≡ false → (v : ValueState) → value_state found ≡ Some v
      → Extended p before after [] 1 × ((seen_by p after).value g i ≡ v)
  value-kept fails v says = then-value false fails found v step.word says

  -- where it holds the value was what the word found says, before the event
  pub value-before :
      test found ≡ true → (v : ValueState) → value_state found ≡ Some v
      → (seen_before p after).value g i ≡ v
  value-before holds v says =
      ap (λ s. (tables_at p (drop 1 s)).value g i)
      (step.grows.seen ∙ ap (λ b. only b e ++ (step.grows.others ++ before.seen)) holds)
      ∙ ap value_in_word step.word ∙ ap (λ o. unwrap_or o Null) says

  -- and the event made a word of the one found
  pub value-made :
      test found ≡ true → (f : ℕ → ℕ) (v : ValueState)
      → let h = step.grows.others ++ before.seen in let index = value_place p g i in
      words_of p (e ∷ h) ≡ slice_set (words_of p h) index (f (slice_index (words_of p h) index))
      → value_state (f found) ≡ Some v → Extended p before after (e ∷ []) 1
      × ((seen_by p after).value g i ≡ v)
  value-made holds f v words says =
      let h = step.grows.others ++ before.seen in
      let index = value_place p g i in
      let new = f (slice_index (words_of p h) index) in
      let legal = met-legal p plan (λ x. only (test x) e) before found after g i slot step in
      let within : index < length (words_of p h) =
      subst (λ n. index < n) (sym (lawful_words p plan h legal).length)
      (value-within p plan g i slot) in
      then-value true holds (f found) v
      (ap (λ w. slice_index w index) words ∙ get_or-set_same (words_of p h) index new 0 within
      ∙ ap f step.word) says

-- What priming a value tells.
module _
    (p : Plan) (plan : IsPlan p) (before : SeenBy)
    (found : ℕ) (after : SeenBy) (g i : ℕ) (slot : IsSlot p g i)
    (step : Stepped p (prime_events before.number g i) (value_place p g i) before found after)
    (v : ValueState)
    (says : value_state found ≡ Some v) where
  pub prime-won :
      IsUnprimed v
      → Extended p before after (Prime before.number g i ∷ []) 1
      × ((seen_before p after).value g i ≡ v)
      × ((seen_by p after).value g i ≡ primed v)
  prime-won unprimed =
      let e = Prime before.number g i in
      let test : ℕ → Bool = λ x. eqb (x % 2) 0 in
      let holds = eq-eqb (found % 2) 0 ((evens found v says).0 unprimed) in
      let made = value-made p plan test e before found after g i slot step holds (λ x. bit_or x 1)
      (primed v) refl (primed-says found v says) in
      (made.0, value-before p plan test e before found after g i slot step holds v says, made.1)

  pub prime-lost : (IsUnprimed v → ⊥) → Extended p before after [] 1
      × ((seen_by p after).value g i ≡ v)
  prime-lost is_primed =
      value-kept p plan (λ x. eqb (x % 2) 0) (Prime before.number g i)
      before found after g i slot step
      (ne_eqb (found % 2) 0 (λ even. is_primed ((evens found v says).1 even))) v says

-- What finishing a number tells.
module _
    (p : Plan) (plan : IsPlan p) (before : SeenBy)
    (found : ℕ) (after : SeenBy) (g i : ℕ) (slot : IsSlot p g i)
    (step : Stepped p (finish_events before.number g i) (value_place p g i) before found after)
    (v : ValueState)
    (says : value_state found ≡ Some v) where
  -- the test of the word that was found is one of the value
  tested : is_primed_number (value_in_word found) ≡ is_primed_number v
  tested = ap (λ o. is_primed_number (unwrap_or o Null)) says

  pub finish-won :
      (n : ℕ) → v ≡ Primed n
      → Extended p before after (Finish before.number g i ∷ []) 1
      × ((seen_by p after).value g i ≡ Finished n)
  finish-won n is =
      value-made p plan (λ x. is_primed_number (value_in_word x)) (Finish before.number g i)
      before found after g i
      slot step (tested ∙ ap is_primed_number is) (λ x. bit_or x 2) (Finished n) refl
      (finished-says found n (says ∙ ap Some is))

  -- the number is still primed or finished
  pub finish-held :
      (n : ℕ) → IsPrimedOrFinished (tables_at p before.seen) g i n → (v ≡ Primed n)
      ⊎ (v ≡ Finished n)
  finish-held n held =
      let h = step.grows.others ++ before.seen in
      let legal = met-legal p plan (finish_events before.number g i)
      before found after g i slot step in
      let value : (tables_at p h).value g i ≡ v = ap value_in_word step.word
      ∙ ap (λ o. unwrap_or o Null) says in
      subst (λ x. (x ≡ Primed n) ⊎ (x ≡ Finished n)) value
      ((seen_lasts p plan step.grows.others before.seen legal).primed_or_finished g i n slot held)

  pub finish-lost :
      (n : ℕ) → v ≡ Finished n
      → Extended p before after [] 1 × ((seen_by p after).value g i ≡ Finished n)
  finish-lost n is =
      let kept = value-kept p plan (λ x. is_primed_number (value_in_word x))
      (Finish before.number g i) before found after g i slot step
      (tested ∙ ap is_primed_number is) v says in
      (kept.0, kept.1 ∙ is)

-- What copying a number tells.
module _
    (p : Plan) (plan : IsPlan p) (before : SeenBy) (found : ℕ)
    (after : SeenBy) (g i k n : ℕ) (slot : IsSlot p g i)
    (step : Stepped p (copy_events before.number g i k n) (value_place p g i) before found after)
    (v : ValueState)
    (says : value_state found ≡ Some v) where
  pub copy-won :
      (word : ℕ) → value_state word ≡ Some (Live n) → v ≡ Null
      → Extended p before after (CopyIn before.number g i k n ∷ []) 1
      × ((seen_by p after).value g i ≡ Live n)
  copy-won word back is =
      value-made p plan (λ x. eqb x 0) (CopyIn before.number g i k n)
      before found after g i slot step
      (eq-eqb found 0 ((codings.word_of_state found v says).0 ∙ ap value_word is))
      (λ x. value_word (Live n)) (Live n)
      refl (codings.state_of_word (Live n) (codings.word_of_state word (Live n) back).1)

  pub copy-lost : (v ≡ Null → ⊥) → Extended p before after [] 1 × ((seen_by p after).value g i ≡ v)
  copy-lost other =
      value-kept p plan (λ x. eqb x 0) (CopyIn before.number g i k n)
      before found after g i slot step
      (ne_eqb found 0 (λ same. other (ap (λ o. unwrap_or o Null) (sym says ∙ ap value_state same))))
      v says
