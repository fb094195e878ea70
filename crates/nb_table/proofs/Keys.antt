-- The exchanges of an empty key word, and of a next word.
use Rattle.std.proofs.Common.{◌≡◌, ◌≢◌, ◌∙◌, ℕ, ◌+◌, ◌-◌, ◌<◌, ◌≤◌, ◌⊎◌, zero, suc, cond, eqb, List, [], ◌∷◌, ◌++◌, slice_index, slice_set, ap, sym, subst, refl, inl, inr, arith}
use Rattle.std.proofs.lemmas.Bool.{eq-eqb, eqb-true, ne_eqb}
use Rattle.std.proofs.lemmas.Bool.Decides.{eqb_tells}
use Rattle.std.proofs.lemmas.List.{get_or-set_same}
use Rattle.nb_core.specs.Plans.{Plan, IsPlan, Header, Key, generations_of, header_place, key_place, limit_of, value_place, word_count}
use Rattle.nb_core.specs.States.{key_state, key_word}
use Rattle.nb_core.specs.Tables.{AreOthers, HasSlotBelow, IsInstalled, IsReady, IsSlot, Tables, tables_at, words_of}
use Rattle.nb_core.specs.History.{HasWay, IsLegal, seat_of_event}
use Rattle.nb_core.specs.Laws.{Lasts}
use Rattle.nb_core.specs.declared.numbers.TheConstants.{KEY_MAX}
use Rattle.nb_core.specs.declared.events.Event.{Event}
use Rattle.nb_core.specs.declared.events.Event.TheVariants.{Claim, Kill, Install}
use Rattle.nb_core.specs.declared.states.KeyState.{KeyState}
use Rattle.nb_core.specs.declared.states.KeyState.TheVariants.{Empty}
use Rattle.nb_table.proofs.Following.{if-follows, later, none-follows, one-follows}
use Rattle.nb_table.specs.Chains.{Extended, SeenBy, seen_by}
use Rattle.nb_table.specs.Events.{only}
use Rattle.nb_table.proofs.Events.{claim_events, install_events, kill_events}
use Rattle.nb_table.specs.Steps.{Can, MayStep, Stepped}
use Rattle.nb_core.proofs.Theorems.{lawful_words, linked, indices_are_distinct}

-- a slot's key word lies right before its value word
pub before-value :
    (p : Plan) (g i : ℕ) {value : ℕ} → value ≡ value_place p g i → value - 1 ≡ key_place p g i
before-value p g i is = omega (arith, is)

-- ---- what may be exchanged

-- an exchange of the word 0 is an event where it finds 0
exchange-follows :
    (p : Plan) (e : Event) (number index new : ℕ) (h : List Event) → IsLegal p h
    → seat_of_event e ≡ number
    → words_of p (e ∷ h) ≡ slice_set (words_of p h) index new → let found =
    slice_index (words_of p h) index in
    (found ≡ 0 → IsLegal p (e ∷ h)) → MayStep p (only (eqb found 0) e) number index
    (cond (eqb found 0) new found) h
exchange-follows p e number index new h legal mine words may =
    let found = slice_index (words_of p h) index in
    if-follows p (eqb found 0) e number index (cond (eqb found 0) new found) h
    (λ is. one-follows p e number index (cond (eqb found 0) new found) h (may (eqb-true found 0 is))
    (words ∙ ap (λ b. slice_set (words_of p h) index (cond b new found)) (sym is)) mine)
    (λ is. none-follows p number index (cond (eqb found 0) new found) h legal
    (ap (λ b. cond b new found) is))

-- why a key may be claimed at a distance is why it may be so later
reason-lasts :
    (p : Plan) (g k distance : ℕ) (t u : Tables) → g < generations_of p → Lasts p t u
    → HasSlotBelow p t g k ⊎ (IsReady p t g × (distance < limit_of p g))
    → HasSlotBelow p u g k ⊎ (IsReady p u g × (distance < limit_of p g))
reason-lasts p zero k distance t u within lasting (inl has) = absurd has
reason-lasts p (suc g) k distance t u within lasting (inl has) =
    inl (lasting.has_slot g k (omega arith) has)
reason-lasts p g k distance t u within lasting (inr ready) =
    inr (lasting.ready g within ready.0, ready.1)

module _ (p : Plan) (number g : ℕ) (seen : List Event) where
  -- an empty slot may be closed to keys once there is a next table
  pub can-kill :
      (i : ℕ) → IsSlot p g i → IsInstalled (tables_at p seen) (suc g)
      → Can p (kill_events number g i) number seen (key_place p g i)
      (λ found. cond (eqb found 0) 1 found)
  can-kill i slot growing plan numbered others not_own legal =
      exchange-follows p (Kill number g i) number (key_place p g i) 1 (others ++ seen)
      legal refl refl (λ zero_found. (
        legal,
        (numbered, slot),
        record {
          growing = (later p number seen plan others legal).installed (suc g) growing;
          empty = ap key_state zero_found;
        },
        tt,
      ))

  -- an empty slot may be claimed for a key that has its way there
  pub can-claim :
      (i k word : ℕ) → IsSlot p g i → IsInstalled (tables_at p seen) g
      → HasWay p (tables_at p seen) g i k → k ≤ KEY_MAX
      → word ≡ k + 2
      → Can p (claim_events number g i k) number seen (key_place p g i)
      (λ found. cond (eqb found 0) word found)
  can-claim i k word slot installed way in_range word_is plan numbered others not_own legal =
      let lasting = later p number seen plan others legal in
      let words = ap (slice_set (words_of p (others ++ seen)) (key_place p g i)) (sym word_is) in
      exchange-follows p (Claim number g i k) number (key_place p g i) word (others ++ seen)
      legal refl words (λ zero_found. (
        legal,
        (numbered, slot, in_range),
        record {
          installed = lasting.installed g installed;
          empty = ap key_state zero_found;
          way = record {
            path = record {
              distance = way.path.distance;
              in_table = way.path.in_table;
              at = way.path.at;
              passed = lasting.others g k way.path.distance slot.0 way.path.passed;
            };
            reason = reason-lasts p g k way.path.distance _ _ slot.0 lasting way.reason;
          };
        },
        tt,
      ))

  -- a table may be followed by another where a key's path is crowded and the table below is
  -- complete
  pub can-install :
      (k : ℕ) → suc g < generations_of p → IsReady p (tables_at p seen) g
      → AreOthers p (tables_at p seen) g k (limit_of p g)
      → k ≤ KEY_MAX
      → Can p (install_events number g k) number seen (header_place p g 0)
      (λ found. cond (eqb found 0) 1 found)
  can-install k room ready crowded in_range plan numbered others not_own legal =
      let lasting = later p number seen plan others legal in
      exchange-follows p (Install number g k) number (header_place p g 0) 1 (others ++ seen)
      legal refl refl (λ zero_found. (
        legal,
        (numbered, omega arith, in_range),
        record {
          room = room;
          no_next = zero_found;
          ready = lasting.ready g (omega arith) ready;
          crowded = lasting.others g k (limit_of p g) (omega arith) crowded;
        },
        tt,
      ))

-- ---- what an exchange tells

module _
    (p : Plan) (e : Event) (index at found : ℕ) (before after : SeenBy) (at_index : at ≡ index)
    (told : Stepped p (λ word. only (eqb word 0) e) at before found after) where
  -- it made its event where it found 0
  exchange-won : found ≡ 0 → Extended p before after (e ∷ []) 1
  exchange-won zero_found =
      subst (λ test. Extended p before after (cond test (e ∷ []) []) 1) (eq-eqb found 0 zero_found)
      told.grows

  -- and none where it found another word
  exchange-lost : found ≢ 0 → Extended p before after [] 1
  exchange-lost some_found =
      subst (λ test. Extended p before after (cond test (e ∷ []) []) 1) (ne_eqb found 0 some_found)
      told.grows

  -- what it has seen afterwards, where it made its event
  won-seen : found ≡ 0 → after.seen ≡ e ∷ (told.grows.others ++ before.seen)
  won-seen zero_found =
      told.grows.seen ∙ ap (λ test. cond test (e ∷ []) [] ++ (told.grows.others ++ before.seen))
      (eq-eqb found 0 zero_found)

  -- and where not
  lost-seen : found ≢ 0 → after.seen ≡ told.grows.others ++ before.seen
  lost-seen some_found =
      told.grows.seen ∙ ap (λ test. cond test (e ∷ []) [] ++ (told.grows.others ++ before.seen))
      (ne_eqb found 0 some_found)

  -- a word of what the seat has seen, by the history
  word-seen :
      (h : List Event) (word : ℕ) → after.seen ≡ h → slice_index (words_of p h) index ≡ word
      → slice_index (words_of p after.seen) index ≡ word
  word-seen h word is here =
      subst (λ h. slice_index (words_of p h) index ≡ word) (sym is) here

  -- the word that it found is still there, where that isn't 0
  word-lost : found ≢ 0 → slice_index (words_of p after.seen) index ≡ found
  word-lost some_found =
      word-seen (told.grows.others ++ before.seen) found (lost-seen some_found)
      (ap (slice_index (words_of p (told.grows.others ++ before.seen))) (sym at_index) ∙ told.word)

  -- else the new word is there
  word-won :
      (new : ℕ) → IsPlan p → index < word_count p
      → ((h : List Event) → words_of p (e ∷ h) ≡ slice_set (words_of p h) index new) → found ≡ 0
      → slice_index (words_of p after.seen) index ≡ new
  word-won new plan within words zero_found =
      let h = told.grows.others ++ before.seen in
      let legal : IsLegal p (e ∷ h) = subst (IsLegal p) (won-seen zero_found) told.grows.legal in
      word-seen (e ∷ h) new (won-seen zero_found)
      (ap (λ w. slice_index w index) (words h)
      ∙ get_or-set_same (words_of p h) index new 0
      (omega (arith, within, (lawful_words p plan h legal.0).length)))

-- the same of a key word, by the state that it stood for
module _
    (p : Plan) (e : Event) (g i at found : ℕ) (before after : SeenBy)
    (at_index : at ≡ key_place p g i)
    (told : Stepped p (λ word. only (eqb word 0) e) at before found after) (state : KeyState) where
  -- an empty slot has the new word's state
  pub key-won :
      (new : ℕ) → IsPlan p → IsSlot p g i
      → ((h : List Event) → words_of p (e ∷ h) ≡ slice_set (words_of p h) (key_place p g i) new)
      → key_word state ≡ found → state ≡ Empty
      → Extended p before after (e ∷ []) 1 × ((seen_by p after).key g i ≡ key_state new)
  key-won new plan slot words back empty =
      let zero_found = sym back ∙ ap key_word empty in
      let within = (indices_are_distinct p plan).below (Key g i) slot in (
        exchange-won p e (key_place p g i) at found before after at_index told zero_found,
        ap key_state
            (word-won p e (key_place p g i) at found before after at_index told new plan within
            words
            zero_found),
      )

  -- another slot stays as it was found
  pub key-lost : state ≡ key_state found → state ≢ Empty → Extended p before after [] 1
      × ((seen_by p after).key g i ≡ state)
  key-lost decoded differs =
      let some_found : found ≢ 0 = λ zero_found. differs (decoded ∙ ap key_state zero_found) in (
        exchange-lost p e (key_place p g i) at found before after at_index told some_found,
        ap key_state (word-lost p e (key_place p g i)
            at found before after at_index told some_found) ∙ sym decoded,
      )

-- after the exchange of a next word the next table is there, whoever installed it
pub exchange-installs :
    (p : Plan) (number g k at found : ℕ) (before after : SeenBy) → at ≡ header_place p g 0
    → Stepped p (install_events number g k) at before found after → IsPlan p
    → g < generations_of p → IsInstalled (seen_by p after) (suc g)
exchange-installs p number g k at found before after at_index told plan within =
    let e = Install number g k in
    let index = header_place p g 0 in
    let below = (indices_are_distinct p plan).below (Header g 0) (within, omega arith) in
    elim (eqb_tells found 0) [
      | inl zero_found ↦ word-won p e index at found before after at_index told 1 plan below
          (λ h. refl) zero_found.1
      | inr some_found ↦ elim ((linked p plan after.seen told.grows.legal).next g) [
        | inl zero_after ↦
            let still = word-lost p e index at found before after at_index told some_found.1 in
            absurd (some_found.1 (sym still ∙ zero_after))
        | inr is ↦ is
      ]
    ]
