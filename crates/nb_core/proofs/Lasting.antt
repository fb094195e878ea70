-- What a step leaves as it is, and what it can't take away.
use Rattle.std.proofs.Common.{◌≡◌, ◌≢◌, ◌∙◌, ℕ, ◌<◌, ◌≤◌, ◌⊎◌, zero, suc, Option, Some, None, MatchOption, sym, subst, refl, inl, inr}
use Rattle.nb_core.specs.Log.{changed}
use Rattle.nb_core.specs.Plans.{Plan, IsPlan, generations_of}
use Rattle.nb_core.specs.Tables.{AreOthers, HasSlot, IsComplete, IsFinished, IsFinishedValue, IsInstalled, IsSlot, IsUnprimed, Tables, path_slot, HasContent, IsPrimedOrFinished}
use Rattle.nb_core.specs.History.{IsExchange, MayClaim, MayWin, number_in_value, key_of_call}
use Rattle.nb_core.specs.States.{primed}
use Rattle.nb_core.proofs.Computed.{no_true, number_left}
use Rattle.nb_core.proofs.Sound.{IsSound, claimed-same, empty-null, empty-unclaimed, path_slot-is_slot, unprimed-not_final}
use Rattle.nb_core.proofs.Steps.{KeyStep, KeyKept, Claims, Kills, NextStep, NextKept, Installs, Step, ValueStep, ValueKept, Wins, Copies, Primes, Finishes}
use Rattle.nb_core.specs.declared.numbers.TheConstants.{KEY_MAX}
use Rattle.nb_core.specs.declared.calls.Call.{Call}
use Rattle.nb_core.specs.declared.calls.Call.TheVariants as call
use Rattle.nb_core.specs.declared.states.KeyState.{KeyState}
use Rattle.nb_core.specs.declared.states.KeyState.TheVariants.{Empty, Dead, Claimed}
use Rattle.nb_core.specs.declared.states.ValueState.{ValueState}
use Rattle.nb_core.specs.declared.states.ValueState.TheVariants.{Null, Tombstone, Live, PrimedNull, Primed, Finished}

-- ---- values

-- what an exchange puts: a tombstone in place of a number, or another number
pub data Puts (a b : ValueState) : Type 0 where
  PutsNone : (n : ℕ) → a ≡ Live n → b ≡ Tombstone → Puts a b
  PutsNumber : (n : ℕ) → b ≡ Live n → b ≢ a → Puts a b

-- by what is put: a number or none
exchange-of :
    (o : Option ℕ) (a b : ValueState) (P : ℕ → Type 0)
    → MatchOption o ((b ≡ Tombstone) × ((n : ℕ) × (a ≡ Live n))) (λ n. (b ≡ Live n) × (b ≢ a) × P n)
    → Puts a b
exchange-of None a b P e = PutsNone e.1.0 e.1.1 e.0
exchange-of (Some n) a b P e = PutsNumber n e.0 e.1

exchange-puts : (c : Call) (k : ℕ) (a b : ValueState) → IsExchange c k a b → Puts a b
exchange-puts (call.Get key) k a b e = absurd e
exchange-puts (call.Write key want change) k a b e =
    exchange-of (changed change (number_in_value a)) a b _ e.2

exchange-key : (c : Call) (k : ℕ) (a b : ValueState) → IsExchange c k a b → key_of_call c ≡ k
exchange-key (call.Get key) k a b e = absurd e
exchange-key (call.Write key want change) k a b e = e.0

-- a call that may win puts a number or a tombstone,
pub win-puts :
    {p : Plan} {t : Tables} {g i : ℕ} {a b : ValueState} {c : Call} → MayWin p t g i a b c
    → Puts a b
win-puts {a = a} {b = b} {c = c} may = exchange-puts c may.key a b may.exchange

-- at its key
pub win-key :
    {p : Plan} {t : Tables} {g i : ℕ} {a b : ValueState} {c : Call} → (may : MayWin p t g i a b c)
    → key_of_call c ≡ may.key
win-key {a = a} {b = b} {c = c} may = exchange-key c may.key a b may.exchange

module _ {a b : ValueState} where
  -- what is put isn't primed
  pub put-unprimed : Puts a b → IsUnprimed b
  put-unprimed (PutsNone n was e) = subst IsUnprimed (sym e) tt
  put-unprimed (PutsNumber n e differs) = subst IsUnprimed (sym e) tt

  -- and is a content
  pub put-content : Puts a b → HasContent b
  put-content (PutsNone n was e) = subst HasContent (sym e) tt
  put-content (PutsNumber n e differs) = subst HasContent (sym e) tt

  -- the map has what was put
  pub put-number : (before : Option ℕ) → Puts a b → number_left b before ≡ number_in_value b
  put-number before (PutsNone n was e) = rw e refl
  put-number before (PutsNumber n e differs) = rw e refl

-- a content is one when it is primed
primed-content : (v : ValueState) → HasContent v → HasContent (primed v)
primed-content Null e = e
primed-content PrimedNull e = e
primed-content _ e = tt

-- a content isn't null
pub content-some : (v : ValueState) → HasContent v → v ≢ Null
content-some v content null = subst HasContent null content

-- nor is a primed value
primed-some : (v : ValueState) → primed v ≢ Null
primed-some Null e = cc
primed-some _ e = cc

module _ {p : Plan} {t : Tables} {g i : ℕ} {to : ValueState} where
  -- a value that isn't unprimed can only be finished
  pub value-primed :
      ValueStep p t g i to → (IsUnprimed (t.value g i) → ⊥)
      → (to ≡ t.value g i) ⊎ ((n : ℕ) × (t.value g i ≡ Primed n) × (to ≡ Finished n))
  value-primed (ValueKept e) primed = inl e
  value-primed (Wins a b c may e) primed =
      absurd (primed (subst IsUnprimed (sym may.stands) may.unprimed))
  value-primed (Copies k n may e) primed = absurd (primed (subst IsUnprimed (sym may.null) tt))
  value-primed (Primes may e) primed = absurd (primed may.unprimed)
  value-primed (Finishes may e) primed = inr (may.number, may.primed, e)

  -- a final value stays
  pub value-final : ValueStep p t g i to → IsFinishedValue (t.value g i) → to ≡ t.value g i
  value-final step final =
      elim (value-primed step (λ unprimed. unprimed-not_final (t.value g i) unprimed final)) [
        | inl e ↦ e
        | inr finishes ↦ no_true (subst IsFinishedValue finishes.1 final)
      ]

  -- and is still final
  pub value-still_final : ValueStep p t g i to → IsFinishedValue (t.value g i) → IsFinishedValue to
  value-still_final step final = subst IsFinishedValue (sym (value-final step final)) final

  -- a number that is primed stays, primed or finished
  pub value-primed_or_finished : {n : ℕ} → ValueStep p t g i to → IsPrimedOrFinished t g i n
      → (to ≡ Primed n) ⊎ (to ≡ Finished n)
  value-primed_or_finished {n} step (inl primed) =
      elim (value-primed step (λ unprimed. subst IsUnprimed primed unprimed)) [
        | inl e ↦ inl (e ∙ primed)
        | inr finishes ↦ inr (let same : Primed finishes.0 ≡ Primed n = sym finishes.1 ∙ primed in
            let is = finishes.2 in cc)
      ]
  value-primed_or_finished step (inr finished) =
      inr (value-final step (subst IsFinishedValue (sym finished) refl) ∙ finished)

  -- no step makes a value null
  pub value-some : ValueStep p t g i to → t.value g i ≢ Null → to ≢ Null
  value-some (ValueKept e) some null = some (sym e ∙ null)
  value-some (Wins a b c may e) some null =
      content-some b (put-content (win-puts may)) (sym e ∙ null)
  value-some (Copies k n may e) some null = (let same : Live n ≡ Null = sym e ∙ null in cc)
  value-some (Primes may e) some null = primed-some (t.value g i) (sym e ∙ null)
  value-some (Finishes may e) some null =
      (let same : Finished may.number ≡ Null = sym e ∙ null in cc)

  -- what has a content keeps one
  pub value-content : ValueStep p t g i to → HasContent (t.value g i) → HasContent to
  value-content (ValueKept e) content = subst HasContent (sym e) content
  value-content (Wins a b c may e) content = subst HasContent (sym e) (put-content (win-puts may))
  value-content (Copies k n may e) content = subst HasContent (sym e) tt
  value-content (Primes may e) content = subst HasContent (sym e)
      (primed-content (t.value g i) content)
  value-content (Finishes may e) content = subst HasContent (sym e) tt

  -- only a claimed slot's value changes
  value-unclaimed : ValueStep p t g i to → ((k : ℕ) → t.key g i ≢ Claimed k) → to ≡ t.value g i
  value-unclaimed (ValueKept e) unclaimed = e
  value-unclaimed (Wins a b c may e) unclaimed = absurd (unclaimed may.key may.claimed)
  value-unclaimed (Copies k n may e) unclaimed = absurd (unclaimed k may.claimed)
  value-unclaimed (Primes may e) unclaimed = absurd (unclaimed may.key may.claimed)
  value-unclaimed (Finishes may e) unclaimed = absurd (unclaimed may.key may.claimed)

  -- an empty slot's value is null after the step too
  pub value-empty : IsSound p t → IsSlot p g i → ValueStep p t g i to → t.key g i ≡ Empty
      → to ≡ Null
  value-empty s slot step empty = value-unclaimed step (empty-unclaimed empty)
      ∙ empty-null p t s g i slot empty

-- ---- keys

module _ {p : Plan} {t : Tables} {g i : ℕ} {to : KeyState} where
  -- a key that isn't empty stays
  key-stays : KeyStep p t g i to → t.key g i ≢ Empty → to ≡ t.key g i
  key-stays (KeyKept e) some = e
  key-stays (Claims k range may e) some = absurd (some may.empty)
  key-stays (Kills may e) some = absurd (some may.empty)

  -- so does a claim,
  pub key-claimed : {k : ℕ} → KeyStep p t g i to → t.key g i ≡ Claimed k → to ≡ Claimed k
  key-claimed {k} step is = key-stays step (λ empty. empty-unclaimed empty k is) ∙ is

  -- and so does a closed slot
  pub key-dead : KeyStep p t g i to → t.key g i ≡ Dead → to ≡ Dead
  key-dead step is = key-stays step (λ empty. let e : Dead ≡ Empty = sym is ∙ empty in cc) ∙ is

  -- a claimed slot was the key's already, or was claimed just now
  pub key-was : {k : ℕ} → KeyStep p t g i to → to ≡ Claimed k → (t.key g i ≡ Claimed k)
      ⊎ ((k ≤ KEY_MAX) × MayClaim p t g i k)
  key-was (KeyKept e) is = inl (sym e ∙ is)
  key-was {k} (Claims j range may e) is =
      let same : j ≡ k = claimed-same (sym e ∙ is) in
      inr (subst (λ x. x ≤ KEY_MAX) same range, subst (MayClaim p t g i) same may)
  key-was {k} (Kills may e) is = absurd (let same : Dead ≡ Claimed k = sym e ∙ is in cc)

  -- a dead slot was dead already, or was closed just now
  pub key-was_dead : KeyStep p t g i to → to ≡ Dead → (t.key g i ≡ Dead) ⊎ (t.next g ≡ 1)
  key-was_dead (KeyKept e) is = inl (sym e ∙ is)
  key-was_dead (Claims k range may e) is = absurd (let same : Claimed k ≡ Dead = sym e ∙ is in cc)
  key-was_dead (Kills may e) is = inr may.growing

-- ---- tables

-- a table that has a next one keeps it
pub next-stays : {p : Plan} {t : Tables} {g to : ℕ} → NextStep p t g to → t.next g ≡ 1 → to ≡ 1
next-stays (NextKept e) is = e ∙ is
next-stays (Installs k may e) is = e

module _ (p : Plan) (t u : Tables) (step : Step p t u) where
  -- so an installed table stays installed,
  pub installed-stays : (g : ℕ) → IsInstalled t g → IsInstalled u g
  installed-stays zero is = tt
  installed-stays (suc g) is = next-stays (step.next g) is

  -- a finished slot finished,
  pub finished-stays : (g i : ℕ) → IsSlot p g i → IsFinished t g i → IsFinished u g i
  finished-stays g i slot (inl dead) = inl (key-dead (step.key g i slot) dead)
  finished-stays g i slot (inr final) = inr (value-still_final (step.value g i slot) final)

  -- a complete table complete,
  pub complete-stays : (g : ℕ) → g < generations_of p → IsComplete p t g → IsComplete p u g
  complete-stays g within complete i below = finished-stays g i (within, below) (complete i below)

  -- slots of other keys such,
  pub others-stay : IsPlan p → (g k d : ℕ) → g < generations_of p → AreOthers p t g k d
      → AreOthers p u g k d
  others-stay plan g k d within others e below =
      let other = others e below in
      let slot = path_slot-is_slot p plan g k e within in
      record {
        other = other.other;
        is = key-claimed (step.key g (path_slot p g k e) slot) other.is;
        differs = other.differs;
      }

  -- and a key's slot the key's
  pub slot-stays : (g k : ℕ) → g < generations_of p → HasSlot p t g k → HasSlot p u g k
  slot-stays g k within has =
      record {
        slot = has.slot;
        in_table = has.in_table;
        is =
            key-claimed (step.key g has.slot (within, has.in_table)) has.is;
      }
