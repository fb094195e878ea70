-- What a look at a closed chain finds of a key: along the key's path in a table, and from the first
-- table up.
use Rattle.std.proofs.Common.{◌≡◌, ◌≢◌, ◌∙◌, ℕ, ◌+◌, ◌-◌, ◌<◌, ◌≤◌, ◌⊎◌, zero, suc, add-one, ap, below_more, sym, subst, refl, inl, inr, Bool, true, false, cond, List, [], ◌∷◌, slice_index, Option, Some, None, option_map, arith}
use mathlib.Core.Option.{some, some-injective, some-ne-none}
use lib.ListN.{get_elem?}
use Rattle.std.proofs.lemmas.Bool.{cases_cond, cases_eq, cases_order, eq-eqb, eqb-true, ne_eqb}
use Rattle.nb_core.specs.Plans.{Plan, IsPlan, generations_of, size_of}
use Rattle.nb_core.specs.History.{IsLegal}
use Rattle.nb_core.specs.Tables.{AreOthers, IsComplete, IsFinishedValue, IsInstalled, IsOnPath, IsOther, IsSlot, IsUnprimed, Tables, path_slot, tables_at, tables_of}
use Rattle.nb_core.specs.Meaning.{is_blank, is_claimed_by, is_installed, shown_by, shown_from, slot_among, value_in}
use Rattle.nb_core.specs.Laws.{AreLinked}
use Rattle.nb_core.specs.declared.events.Event.{Event}
use Rattle.nb_core.specs.declared.states.KeyState.{KeyState}
use Rattle.nb_core.specs.declared.states.KeyState.TheVariants.{Empty, Dead, Claimed}
use Rattle.nb_core.specs.declared.states.ValueState.{ValueState}
use Rattle.nb_core.specs.declared.states.ValueState.TheVariants.{Null, Tombstone, Live, PrimedNull, PrimedTombstone, Primed, Finished}
use Rattle.nb_table.specs.Closing.{IsClosed, closed_of}
use Rattle.nb_table.specs.Left.{ClosedOf, IsLeft, tables_left}
use Rattle.nb_table.specs.declared.closed.Closed.TheInside as inside

-- ---- words

-- a word that was read
pub word-at :
    (words : List ℕ) (index word : ℕ) → get_elem? words index ≡ some word
    → word ≡ slice_index words index
word-at [] index word at = absurd (some-ne-none word (sym at))
word-at (w ∷ words) zero word at = sym (some-injective w word at)
word-at (w ∷ words) (suc index) word at = word-at words index word at

-- ---- the laws of the history that left the words

pub lawful :
    (c : inside.Inside) (closed : ClosedOf) → IsClosed c → closed_of c ≡ closed → IsLeft closed
lawful c closed is view = subst IsLeft view is.left

-- what holds of the tables of the history holds of what the words say
pub of-left :
    (closed : ClosedOf) → IsLeft closed → (P : Tables → Type 0)
    → P (tables_at closed.shape closed.history)
    → P (tables_left closed)
of-left closed left P = subst (λ words. P (tables_of closed.shape words)) (sym left.is)

pub law-left :
    (closed : ClosedOf) → IsLeft closed → (P : Plan → Tables → Type 0)
    → ((p : Plan) → IsPlan p → (h : List Event) → IsLegal p h → P p (tables_at p h))
    → P closed.shape (tables_left closed)
law-left closed is P law =
    of-left closed is (P closed.shape) (law closed.shape is.plan closed.history is.legal)

-- a key's slot is on its path
abbrev pub AreOnPath : Plan → Tables → Type 0
AreOnPath p t = (g i k : ℕ) → IsSlot p g i → t.key g i ≡ Claimed k → IsOnPath p t g i k

-- a key has one slot in a table
abbrev pub HaveOneSlot : Plan → Tables → Type 0
HaveOneSlot p t =
    (g i j k : ℕ) → IsSlot p g i → IsSlot p g j → t.key g i ≡ Claimed k → t.key g j ≡ Claimed k
    → i ≡ j

-- ---- keys

-- a slot that is the key's, and one that isn't
claimed-by : (k : ℕ) (s : KeyState) → is_claimed_by k s ≡ true → s ≡ Claimed k
claimed-by k Empty is = absurd cc
claimed-by k Dead is = absurd cc
claimed-by k (Claimed j) is = ap Claimed (eqb-true j k is)

unclaimed : (k : ℕ) (s : KeyState) → s ≢ Claimed k → is_claimed_by k s ≡ false
unclaimed k Empty away = refl
unclaimed k Dead away = refl
unclaimed k (Claimed j) away = ne_eqb j k (λ same. away (ap Claimed same))

-- an empty slot and one that is closed to keys have no key
no-key : (s : KeyState) → (s ≡ Empty) ⊎ (s ≡ Dead) → (j : ℕ) → s ≢ Claimed j
no-key s (inl empty) j is = cc
no-key s (inr dead) j is = cc

-- another key's slot isn't the key's own
not-own : (k : ℕ) (s : KeyState) → IsOther s k → s ≢ Claimed k
not-own k s other is = let same : Claimed other.other ≡ Claimed k = sym other.is ∙ is in
    other.differs cc

-- ---- the slots of a table

module _ (t : Tables) (g k : ℕ) where
  -- a slot that is the key's is found, behind another one what is before it
  among-here : (n : ℕ) → t.key g n ≡ Claimed k → slot_among t g k (suc n) ≡ Some n
  among-here n here =
      ap (λ s. cond (is_claimed_by k s) (Some n) (slot_among t g k n)) here
      ∙ ap (λ b. cond b (Some n) (slot_among t g k n)) (eq-eqb k k refl)

  among-before : (n : ℕ) → t.key g n ≢ Claimed k → slot_among t g k (suc n) ≡ slot_among t g k n
  among-before n away = ap (λ b. cond b (Some n) (slot_among t g k n))
      (unclaimed k (t.key g n) away)

  among-none : (n : ℕ) → ((i : ℕ) → i < n → t.key g i ≢ Claimed k) → slot_among t g k n ≡ None
  among-none zero away = refl
  among-none (suc n) away = among-before n (away n (omega arith))
      ∙ among-none n (λ i below. away i (omega arith))

  among-some :
      (n i : ℕ) → i < n → t.key g i ≡ Claimed k → ((j : ℕ) → j < n → t.key g j ≡ Claimed k → j ≡ i)
      → slot_among t g k n ≡ Some i
  among-some zero i within is one = absurd (omega arith)
  among-some (suc n) i within is one =
      elim (cases_eq n i) [
        | inl same ↦ among-here n (ap (t.key g) same ∙ is) ∙ ap Some same
        | inr differs ↦
            among-before n (λ here. differs (one n (omega arith) here))
            ∙ among-some n i (omega arith) is (λ j below. one j (omega arith))
      ]

  among-below : (n i : ℕ) → slot_among t g k n ≡ Some i → i < n
  among-below zero i found = absurd cc
  among-below (suc n) i found =
      elim (cases_cond (is_claimed_by k (t.key g n)) (Some n) (slot_among t g k n) (Some i)
      (sym found)) [
        | inl here ↦ (let same : n ≡ i = cc in omega arith)
        | inr before ↦ omega (arith, among-below n i (sym before))
      ]

  -- a slot that is found is the key's
  among-is : (n i : ℕ) → slot_among t g k n ≡ Some i → t.key g i ≡ Claimed k
  among-is zero i found = absurd cc
  among-is (suc n) i found = of (is_claimed_by k (t.key g n)) refl (among-is n i) found
    where
      of :
          (b : Bool) → is_claimed_by k (t.key g n) ≡ b
          → (slot_among t g k n ≡ Some i → t.key g i ≡ Claimed k)
          → cond b (Some n) (slot_among t g k n) ≡ Some i → t.key g i ≡ Claimed k
      of true is before found = let same : n ≡ i = cc in
          subst (λ j. t.key g j ≡ Claimed k) same (claimed-by k (t.key g n) is)
      of false is before found = before found

  -- a value that is found is in a slot
  among-slot :
      (n : ℕ) (v : ValueState) → option_map (t.value g) (slot_among t g k n) ≡ Some v
      → (i : ℕ) × (i < n) × (t.value g i ≡ v)
  among-slot n v found = of (slot_among t g k n) refl found
    where
      of : (o : Option ℕ) → slot_among t g k n ≡ o → option_map (t.value g) o ≡ Some v
          → (i : ℕ) × (i < n) × (t.value g i ≡ v)
      of None is found = absurd cc
      of (Some i) is found = let value : t.value g i ≡ v = cc in (i, among-below n i is, value)

-- ---- the key's path in a table

module _ (p : Plan) (t : Tables) (g k : ℕ) where
  -- one slot more of the path is another key's
  pub others-more :
      (d i other : ℕ) → AreOthers p t g k d → i ≡ path_slot p g k d → t.key g i ≡ Claimed other
      → other ≢ k
      → AreOthers p t g k (d + 1)
  others-more d i other others at is differs =
      below_more (λ e. IsOther (t.key g (path_slot p g k e)) k) d others
      (record { other = other; is = ap (t.key g) (sym at) ∙ is; differs = differs })

  module _ (within : g < generations_of p) where
    -- the key's own slot has its value
    pub found-slot :
        HaveOneSlot p t → (i : ℕ) → i < size_of p g → t.key g i ≡ Claimed k
        → Some (t.value g i) ≡ value_in p t g k
    found-slot one_slot i in_table is =
        sym (ap (option_map (t.value g)) (among-some t g k (size_of p g) i in_table is
        (λ j below here. one_slot g j i k (within, below) (within, in_table) here is)))

    -- a slot of no key ends the path
    pub found-end :
        AreOnPath p t → (d i : ℕ) → i ≡ path_slot p g k d → AreOthers p t g k d
        → (t.key g i ≡ Empty) ⊎ (t.key g i ≡ Dead) → None ≡ value_in p t g k
    found-end on_path d i at others free =
        sym (ap (option_map (t.value g)) (among-none t g k (size_of p g) (λ j in_table is.
        let on = on_path g j k (within, in_table) is in
        elim (cases_order d on.distance) [
          | inl same ↦ no-key (t.key g i) free k
              (ap (t.key g) (at ∙ ap (path_slot p g k) same ∙ on.at) ∙ is)
          | inr (inl below) ↦
              let passed = on.passed d below in
              no-key (t.key g i) free passed.other (ap (t.key g) at ∙ passed.is)
          | inr (inr above) ↦ not-own k _ (others on.distance above) (ap (t.key g) on.at ∙ is)
        ])))

    -- where other keys have the whole path, the key has no slot
    pub found-none : AreOnPath p t → AreOthers p t g k (size_of p g) → None ≡ value_in p t g k
    found-none on_path others =
        sym (ap (option_map (t.value g)) (among-none t g k (size_of p g) (λ i in_table is.
        let on = on_path g i k (within, in_table) is in
        not-own k _ (others on.distance on.in_table) (ap (t.key g) on.at ∙ is))))

    -- above a primed value there is a table
    pub primed-next : AreLinked p t → (n : ℕ) → Some (Primed n) ≡ value_in p t g k
        → g + 1 < generations_of p
    primed-next linked n found =
        let slot = among-slot t g k (size_of p g) (Primed n) (sym found) in
        elim (linked.primed g slot.0 (within, slot.1)) [
          | inl unprimed ↦ absurd (subst IsUnprimed slot.2 unprimed)
          | inr next ↦ omega (arith, linked.within (suc g) next)
        ]

-- ---- from the first table up

module _ (p : Plan) (t : Tables) (k g : ℕ) (within : g < generations_of p) where
  -- a table that isn't there shows none
  pub shown-absent : false ≡ is_installed t g → shown_from p t k g (generations_of p - g) ≡ None
  shown-absent absent =
      let count : generations_of p - g ≡ suc (generations_of p - suc g) = omega arith in
      let above = shown_from p t k (suc g) (generations_of p - suc g) in
      let here = shown_by (value_in p t g k) (is_blank (value_in p t (suc g) k)) above in
      ap (shown_from p t k g) count ∙ ap (λ b. cond b here None) (sym absent)

  -- one that is there shows what the key's value in it shows
  pub shown-value :
      (v : Option ValueState) → true ≡ is_installed t g → v ≡ value_in p t g k
      → let above = shown_from p t k (g + 1) (generations_of p - (g + 1)) in
      shown_from p t k g (generations_of p - g) ≡ shown_by v (is_blank (value_in p t (g + 1) k))
      above
  shown-value v installed is =
      let count : generations_of p - g ≡ suc (generations_of p - suc g) = omega arith in
      let above = λ (f : ℕ). shown_from p t k f (generations_of p - f) in
      let here = λ (v : Option ValueState) (f : ℕ). shown_by v (is_blank (value_in p t f k))
      (above f) in
      ap (shown_from p t k g) count ∙ ap (λ b. cond b (here (value_in p t g k) (suc g)) None)
      (sym installed)
      ∙ ap (λ v. here v (suc g)) (sym is) ∙ ap (here v) (sym (add-one g))

module _ (blank : Bool) (above : Option ℕ) where
  -- a null and a tombstone show that the key is absent
  pub shows-none : (v : ValueState) → (v ≡ Null) ⊎ (v ≡ Tombstone)
      → shown_by (Some v) blank above ≡ None
  shows-none v (inl null) = ap (λ s. shown_by (Some s) blank above) null
  shows-none v (inr gone) = ap (λ s. shown_by (Some s) blank above) gone

  -- a primed number shows while it isn't copied
  pub shows-primed : (n : ℕ) → blank ≡ true → shown_by (Some (Primed n)) blank above ≡ Some n
  shows-primed n is = ap (λ b. cond b (Some n) above) is

  pub passes-primed : (n : ℕ) → blank ≡ false → shown_by (Some (Primed n)) blank above ≡ above
  passes-primed n is = ap (λ b. cond b (Some n) above) is

  -- a final value passes to the tables above
  pub passes-final :
      (v : ValueState) → (v ≡ PrimedNull) ⊎ ((v ≡ PrimedTombstone) ⊎ ((n : ℕ) × (v ≡ Finished n)))
      → shown_by (Some v) blank above ≡ above
  passes-final v (inl null) = ap (λ s. shown_by (Some s) blank above) null
  passes-final v (inr (inl gone)) = ap (λ s. shown_by (Some s) blank above) gone
  passes-final v (inr (inr copied)) = ap (λ s. shown_by (Some s) blank above) copied.1

  -- so does a finished one
  passes-finished : (v : ValueState) → IsFinishedValue v → shown_by (Some v) blank above ≡ above
  passes-finished Null final = absurd cc
  passes-finished Tombstone final = absurd cc
  passes-finished (Live n) final = absurd cc
  passes-finished PrimedNull final = refl
  passes-finished PrimedTombstone final = refl
  passes-finished (Primed n) final = absurd cc
  passes-finished (Finished n) final = refl

  -- and a table in which the key has a finished value, or none
  passes-complete : (v : Option ValueState) → ((u : ValueState) → v ≡ Some u → IsFinishedValue u)
      → shown_by v blank above ≡ above
  passes-complete None final = refl
  passes-complete (Some u) final = passes-finished u (final u refl)

-- ---- from the top word up

-- a table that is there is found so
installed-is : (t : Tables) (g : ℕ) → IsInstalled t g → true ≡ is_installed t g
installed-is t zero installed = refl
installed-is t (suc g) installed = sym (eq-eqb (t.next g) 1 installed)

module _
    (p : Plan) (t : Tables) (k : ℕ) (linked : AreLinked p t)
    (complete : (g : ℕ) → g < t.top → (g < generations_of p) × IsComplete p t g)
  where
    -- a key's value in a complete table is finished
    value-finished : (g : ℕ) → IsComplete p t g → (v : ValueState) → value_in p t g k ≡ Some v
        → IsFinishedValue v
    value-finished g whole v found = of (slot_among t g k (size_of p g)) refl found
      where
        of :
            (o : Option ℕ) → slot_among t g k (size_of p g) ≡ o → option_map (t.value g) o ≡ Some v
            → IsFinishedValue v
        of None is found = absurd cc
        of (Some i) is found =
            let value : t.value g i ≡ v = cc in
            elim (whole i (among-below t g k (size_of p g) i is)) [
              | inl dead ↦ (let clash : Claimed k ≡ Dead = sym (among-is t g k (size_of p g) i is)
                  ∙ dead in absurd cc)
              | inr final ↦ subst IsFinishedValue value final
            ]

    -- The complete tables below the top word pass every key on.
    pub shown-from-top :
        (g : ℕ) → g ≤ t.top → shown_from p t k 0 (generations_of p)
        ≡ shown_from p t k g (generations_of p - g)
    shown-from-top zero below = (let all : generations_of p ≡ generations_of p - 0 = omega arith in
        ap (shown_from p t k 0) all)
    shown-from-top (suc g) below =
        let here = complete g below in
        let next = linked.complete g here.0 here.1 in
        let above = shown_from p t k (g + 1) (generations_of p - (g + 1)) in
        shown-from-top g (omega arith)
        ∙ shown-value p t k g here.0 (value_in p t g k) (installed-is t g (linked.before g next))
        refl
        ∙ passes-complete (is_blank (value_in p t (g + 1) k)) above (value_in p t g k)
        (value-finished g here.1)
        ∙ ap (λ f. shown_from p t k f (generations_of p - f)) (add-one g)
