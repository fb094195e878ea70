-- The newest number of a key in the tables is the one that the map has.
use Rattle.std.proofs.Common.{◌≡◌, ◌≢◌, ◌∙◌, ℕ, ◌≤◌, zero, suc, ap, sym, refl, subst, inl, inr, cond, eqb, List, [], ◌∷◌, Option, Some, None, arith}
use Rattle.std.proofs.lemmas.Bool.{cases_order, cond-true, cond_both, eqb-false, eqb-true}
use Rattle.nb_core.specs.Plans.{Plan, IsPlan}
use Rattle.nb_core.specs.Tables.{IsSlot, IsUnprimed, Tables, tables_at, HasContent}
use Rattle.nb_core.specs.History.{IsLegal, IsPrimedBelow, MayWin, number_in_value, key_of_call}
use Rattle.nb_core.specs.States.{primed}
use Rattle.nb_core.proofs.Frames.{finished, key-first, value_after, value-frame}
use Rattle.nb_core.proofs.Keeping.{above-primed, sound}
use Rattle.nb_core.proofs.Lasting.{key-claimed, key-was, put-content, put-number, put-unprimed, value-empty, win-key, win-puts}
use Rattle.nb_core.proofs.Computed.{number_at, number_left}
use Rattle.nb_core.proofs.Sound.{IsSound, claimed-same, complete-below, empty-unclaimed, finished-value, one_slot, unprimed-not_final}
use Rattle.nb_core.proofs.Steps.{Step, step_of}
use Rattle.nb_core.proofs.Words.{at_slot, same_both}
use Rattle.nb_core.specs.declared.calls.Call.{Call}
use Rattle.nb_core.specs.declared.events.Event.{Event}
use Rattle.nb_core.specs.declared.events.Event.TheVariants.{Won, CopyIn, Prime, Finish}
use Rattle.nb_core.specs.declared.states.KeyState.TheVariants.{Empty, Claimed}
use Rattle.nb_core.specs.declared.states.ValueState.{ValueState}
use Rattle.nb_core.specs.declared.states.ValueState.TheVariants.{Null, Live, PrimedNull, Primed}

-- ---- values

-- two values with the same number in them, or with none that ever was
record HasSame (a b : ValueState) : Type 0 where
  there : HasContent a → HasContent b
  back : HasContent b → HasContent a
  number : number_in_value b ≡ number_in_value a

-- a value has the same as itself
HasSame-refl : (a : ValueState) → HasSame a a
HasSame-refl a = record { there = λ h. h; back = λ h. h; number = refl }

-- to prime a value leaves its number
HasSame-primed : (a : ValueState) → HasSame a (primed a)
HasSame-primed PrimedNull = HasSame-refl PrimedNull
HasSame-primed _ = record { there = λ h. h; back = λ h. h; number = refl }

-- so does to finish it
HasSame-finished : (a : ValueState) → HasSame a (finished a)
HasSame-finished (Primed n) = record { there = λ h. h; back = λ h. h; number = refl }
HasSame-finished _ = HasSame-refl _

-- ---- tables

-- the key never got a number in the table
abbrev pub HasNoneIn : Plan → Tables → ℕ → ℕ → Type 0
HasNoneIn p t k g = (i : ℕ) → IsSlot p g i → t.key g i ≡ Claimed k → HasContent (t.value g i) → ⊥

-- the key never got a number in this table or above
abbrev pub HasNoneFrom : Plan → Tables → ℕ → ℕ → Type 0
HasNoneFrom p t k g = (f : ℕ) → g ≤ f → HasNoneIn p t k f

-- what holds of a number and of all above it holds from it on
pub from_suc : (P : ℕ → Type 0) (g : ℕ) → P g → ((f : ℕ) → suc g ≤ f → P f) → (f : ℕ) → g ≤ f → P f
from_suc P g here above f from =
    elim (cases_order g f) [
      | inl same ↦ subst P same here
      | inr (inl less) ↦ above f less
      | inr (inr more) ↦ absurd (omega arith)
    ]

-- the slot has the key's newest value that isn't null: above it the key never got a number
pub record IsNewestAt (p : Plan) (t : Tables) (k g i : ℕ) : Type 0 where
  pub slot : IsSlot p g i
  pub is : t.key g i ≡ Claimed k
  pub content : HasContent (t.value g i)
  pub none_above : HasNoneFrom p t k (suc g)

-- The number is the one in the key's newest value. Where the key never got one at all, it is none.
pub record IsNewest (p : Plan) (t : Tables) (k : ℕ) (number : Option ℕ) : Type 0 where
  pub at : (g i : ℕ) → IsNewestAt p t k g i → number ≡ number_in_value (t.value g i)
  pub never : HasNoneFrom p t k 0 → number ≡ None

module _
    (p : Plan) (t : Tables) (s : IsSound p t) (k g i : ℕ) (slot : IsSlot p g i)
    (is : t.key g i ≡ Claimed k) where
  -- where the key has none in its slot and none above, it has none from this table on
  pub HasNoneFrom-slot : (HasContent (t.value g i) → ⊥) → HasNoneFrom p t k (suc g)
      → HasNoneFrom p t k g
  HasNoneFrom-slot none =
      from_suc (HasNoneIn p t k) g
      (λ j j_slot j_is content. none (subst (λ j. HasContent (t.value g j))
      (one_slot p t s g j i k j_slot slot j_is is) content))

  -- above an unprimed value the key never got a number
  pub HasNoneFrom-unprimed : IsUnprimed (t.value g i) → HasNoneFrom p t k (suc g)
  HasNoneFrom-unprimed unprimed =
      from_suc (HasNoneIn p t k) (suc g)
      (λ j j_slot j_is content. elim (s.above g i j k slot j_slot is j_is) [
        | inl null ↦ subst HasContent null content
        | inr may ↦ above-primed (t.value g i) (t.value (suc g) j) may unprimed
      ])
      (λ f above j j_slot j_is content.
      let installed = (s.claimed f j k j_slot j_is).installed in
      unprimed-not_final (t.value g i) unprimed
      (finished-value t g i k (complete-below p t s f g above installed i slot.1) is))

-- the newest value has the newest number
IsNewest-at :
    (p : Plan) (t : Tables) → IsSound p t → (k g i : ℕ) → IsNewestAt p t k g i
    → IsNewest p t k (number_in_value (t.value g i))
IsNewest-at p t s k g i here = record {
  at = λ f j there.
      elim (cases_order f g) [
        | inl same ↦ in_table f same j there.slot there.is
        | inr (inl less) ↦ absurd (there.none_above g less i here.slot here.is here.content)
        | inr (inr more) ↦ absurd (here.none_above f more j there.slot there.is there.content)
      ];
  never = λ nowhere. absurd (nowhere g (omega arith) i here.slot here.is here.content);
}
  where
    in_table : (f : ℕ) → f ≡ g → (j : ℕ) → IsSlot p f j → t.key f j ≡ Claimed k
        → number_in_value (t.value g i) ≡ number_in_value (t.value f j)
    in_table f same =
        subst (λ f. (j : ℕ) → IsSlot p f j → t.key f j ≡ Claimed k
        → number_in_value (t.value g i) ≡ number_in_value (t.value f j)) (sym same)
        (λ j j_slot j_is. ap (λ j. number_in_value (t.value g j))
        (one_slot p t s g i j k here.slot j_slot here.is j_is))

-- ---- a step without an exchange on the key

-- what such a step makes of a value of the key: the same content, or a copy of the number below
data QuietStep (p : Plan) (t : Tables) (g i k : ℕ) (to : ValueState) : Type 0 where
  Stays : HasSame (t.value g i) to → QuietStep p t g i k to
  CopiesUp : (n : ℕ) → IsPrimedBelow p t g k n → t.value g i ≡ Null → to ≡ Live n
      → QuietStep p t g i k to

-- what the key has got it keeps
quiet-content :
    {p : Plan} {t : Tables} {g i k : ℕ} {to : ValueState} → QuietStep p t g i k to
    → HasContent (t.value g i) → HasContent to
quiet-content (Stays same) content = same.there content
quiet-content (CopiesUp n below null e) content = absurd (subst HasContent null content)

module _
    (p : Plan) (t u : Tables) (s : IsSound p t) (step : Step p t u) (k : ℕ)
    (quiet : (g i : ℕ) → IsSlot p g i → t.key g i ≡ Claimed k → QuietStep p t g i k (u.value g i))
  where
    -- a slot of a key that has got a number was the key's before the step
    claimed-before : (g i : ℕ) → IsSlot p g i → u.key g i ≡ Claimed k → HasContent (u.value g i)
        → t.key g i ≡ Claimed k
    claimed-before g i slot is content =
        elim (key-was (step.key g i slot) is) [
          | inl was ↦ was
          | inr claims ↦ absurd (subst HasContent
              (value-empty s slot (step.value g i slot) claims.1.empty) content)
        ]

    -- where the key has no number after the step it had none before
    none-before : (g : ℕ) → HasNoneFrom p u k g → HasNoneFrom p t k g
    none-before g none f from i slot is content =
        none f from i slot (key-claimed (step.key f i slot) is)
        (quiet-content (quiet f i slot is) content)

    -- a number that is copied up was the newest
    copied-newest :
        (number : Option ℕ) → IsNewest p t k number → (g i n : ℕ) → IsSlot p g i
        → t.key g i ≡ Claimed k → t.value g i ≡ Null
        → IsPrimedBelow p t g k n → HasNoneFrom p t k (suc g) → number ≡ Some n
    copied-newest number newest zero i n slot is null below none = absurd below
    copied-newest number newest (suc g) i n slot is null below none =
        newest.at g below.0 (record {
          slot = (omega arith, below.1);
          is = below.2;
          content = subst HasContent (sym below.3) tt;
          none_above = HasNoneFrom-slot p t s k (suc g) i slot is
              (λ content. subst HasContent null content) none;
        }) ∙ ap number_in_value below.3

    -- what is newest stays so
    IsNewest-quiet : (number : Option ℕ) → IsNewest p t k number → IsNewest p u k number
    IsNewest-quiet number newest = record {
      at = λ g i here.
          let was = claimed-before g i here.slot here.is here.content in
          let none = none-before (suc g) here.none_above in
          elim (quiet g i here.slot was) [
            | Stays same ↦
                newest.at g i (record {
                  slot = here.slot;
                  is = was;
                  content = same.back here.content;
                  none_above = none;
                })
                ∙ sym same.number
            | CopiesUp n below null e ↦ copied-newest number newest g i n here.slot was null below
                none ∙ sym (ap number_in_value e)
          ];
      never = λ none. newest.never (none-before 0 none);
    }

-- ---- events

-- the event is no exchange on the key
abbrev IsElsewhere : Event → ℕ → Type 0
IsElsewhere (Won s g i a b c r) k = k ≢ key_of_call c
IsElsewhere _ k = Unit {0}

-- a value that is left as it was
quiet-kept :
    (p : Plan) (t : Tables) (g i k : ℕ) → t.key g i ≡ Claimed k → QuietStep p t g i k (t.value g i)
quiet-kept p t g i k is = Stays (HasSame-refl (t.value g i))

-- what an event makes of the values of a key that it has no exchange on
quiet-after :
    (p : Plan) (e : Event) (h : List Event) → IsLegal p (e ∷ h) → (k : ℕ) → IsElsewhere e k
    → (g i : ℕ)
    → let t = tables_at p h in t.key g i ≡ Claimed k
    → QuietStep p t g i k (value_after e g i (t.value g i))
quiet-after p (Won s f j a b c r) h legal k other g i =
    let t = tables_at p h in
    let may = legal.2 in
    at_slot (λ g i here. t.key g i ≡ Claimed k → QuietStep p t g i k (cond here b (t.value g i)))
    f j g i
    (λ is. absurd (other (claimed-same (sym is ∙ may.claimed) ∙ sym (win-key may))))
    (quiet-kept p t g i k)
quiet-after p (CopyIn s f j q n) h legal k other g i =
    let t = tables_at p h in
    let may = legal.2 in
    at_slot (λ g i here. t.key g i ≡ Claimed k
    → QuietStep p t g i k (cond here (Live n) (t.value g i))) f j g i
    (λ is. CopiesUp n (subst (λ q. IsPrimedBelow p t f q n) (claimed-same (sym may.claimed ∙ is))
    may.primed) may.null refl)
    (quiet-kept p t g i k)
quiet-after p (Prime s f j) h legal k other g i =
    let t = tables_at p h in
    at_slot (λ g i here. t.key g i ≡ Claimed k
    → QuietStep p t g i k (cond here (primed (t.value g i)) (t.value g i))) f j g i
    (λ is. Stays (HasSame-primed (t.value f j))) (quiet-kept p t g i k)
quiet-after p (Finish s f j) h legal k other g i =
    let t = tables_at p h in
    at_slot (λ g i here. t.key g i ≡ Claimed k
    → QuietStep p t g i k (cond here (finished (t.value g i)) (t.value g i))) f j g i
    (λ is. Stays (HasSame-finished (t.value f j))) (quiet-kept p t g i k)
quiet-after p _ h legal k other g i = quiet-kept p (tables_at p h) g i k

-- the same of the values after the event
quiet_step :
    (p : Plan) (e : Event) (h : List Event) → IsPlan p → IsLegal p (e ∷ h) → (k : ℕ)
    → IsElsewhere e k → (g i : ℕ)
    → IsSlot p g i → (tables_at p h).key g i ≡ Claimed k
    → QuietStep p (tables_at p h) g i k ((tables_at p (e ∷ h)).value g i)
quiet_step p e h plan legal k other g i slot is =
    subst (QuietStep p (tables_at p h) g i k) (sym (value-frame p e h plan legal g i slot))
    (quiet-after p e h legal k other g i is)

-- after an event without an exchange on the key
IsNewest-elsewhere :
    (p : Plan) (e : Event) (h : List Event) → IsPlan p → IsLegal p (e ∷ h) → (k : ℕ)
    → IsElsewhere e k
    → IsNewest p (tables_at p h) k (number_at h k)
    → IsNewest p (tables_at p (e ∷ h)) k (number_at h k)
IsNewest-elsewhere p e h plan legal k other =
    IsNewest-quiet p (tables_at p h) (tables_at p (e ∷ h)) (sound p h plan legal.0)
    (step_of p e h plan legal) k
    (quiet_step p e h plan legal k other) (number_at h k)

-- what an exchange on the key leaves in its slot is the newest
IsNewest-won :
    (p : Plan) (t u : Tables) → IsSound p u → Step p t u
    → (k g i : ℕ) (a b : ValueState) (c : Call) (before : Option ℕ)
    → IsSlot p g i → MayWin p t g i a b c → u.value g i ≡ b → k ≡ key_of_call c
    → IsNewest p u k (number_left b before)
IsNewest-won p t u s step k g i a b c before slot may e of_call =
    let puts = win-puts may in
    let same : may.key ≡ k = sym (win-key may) ∙ sym of_call in
    let is : u.key g i ≡ Claimed k = key-claimed (step.key g i slot)
    (may.claimed ∙ ap Claimed same) in
    subst (IsNewest p u k) (ap number_in_value e ∙ sym (put-number before puts))
    (IsNewest-at p u s k g i (record {
      slot = slot;
      is = is;
      content = subst HasContent (sym e) (put-content puts);
      none_above = HasNoneFrom-unprimed p u s k g i slot is
          (subst IsUnprimed (sym e) (put-unprimed puts));
    }))

-- before any event
IsNewest-first :
    (p : Plan) (t : Tables) → ((g i : ℕ) → IsSlot p g i → t.key g i ≡ Empty) → (k : ℕ)
    → IsNewest p t k None
IsNewest-first p t empty k = record {
  at = λ g i here. absurd (empty-unclaimed (empty g i here.slot) k here.is);
  never = λ none. refl;
}

-- The number of a legal history is the newest of its tables.
pub newest :
    (p : Plan) (h : List Event) → IsPlan p → IsLegal p h → (k : ℕ)
    → IsNewest p (tables_at p h) k (number_at h k)
newest p [] plan legal k = IsNewest-first p (tables_at p []) (key-first p plan) k
newest p (Won s g i a b c r ∷ h) plan legal k =
    let e = Won s g i a b c r in
    let slot : IsSlot p g i = legal.1.1 in
    cond_both (eqb k (key_of_call c)) (number_left b (number_at h k)) (number_at h k)
    (IsNewest p (tables_at p (e ∷ h)) k)
    (λ same.
    let put = value-frame p e h plan legal g i slot ∙ cond-true _ b _ (same_both g i) in
    IsNewest-won p (tables_at p h) (tables_at p (e ∷ h)) (sound p (e ∷ h) plan legal)
    (step_of p e h plan legal) k g i a b c
    (number_at h k) slot legal.2 put (eqb-true k (key_of_call c) same))
    (λ other. IsNewest-elsewhere p e h plan legal k (eqb-false k (key_of_call c) other)
    (newest p h plan legal.0 k))
newest p (e ∷ h) plan legal k = IsNewest-elsewhere p e h plan legal k tt (newest p h plan legal.0 k)
