-- The invariant of legal histories, said of the tables.
use Rattle.std.proofs.Common.{◌≡◌, ◌≢◌, ◌∙◌, ℕ, ◌+◌, ◌<◌, ◌≤◌, ◌⊎◌, zero, suc, ap, sym, subst, inl, inr, arith}
use Rattle.std.proofs.lemmas.Bool.{cases_order}
use Rattle.std.proofs.lemmas.Nat.{mod_below}
use Rattle.nb_core.specs.Plans.{Plan, IsPlan, generations_of, size_of}
use Rattle.nb_core.specs.Tables.{AreOthers, HasSlot, IsComplete, IsFinished, IsFinishedValue, IsInstalled, IsOnPath, IsOther, IsSlot, IsUnprimed, Tables, path_slot, HasContent}
use Rattle.nb_core.proofs.Computed.{below_suc, no_true}
use Rattle.nb_core.proofs.Tables.{four-le-size_of}
use Rattle.nb_core.specs.declared.numbers.TheConstants.{KEY_MAX}
use Rattle.nb_core.specs.declared.states.KeyState.{KeyState}
use Rattle.nb_core.specs.declared.states.KeyState.TheVariants.{Empty, Dead, Claimed}
use Rattle.nb_core.specs.declared.states.ValueState.{ValueState}
use Rattle.nb_core.specs.declared.states.ValueState.TheVariants.{Null, Tombstone, Live, PrimedNull, PrimedTombstone, Primed, Finished}

-- what a claimed slot tells
pub record IsClaimedRight (p : Plan) (t : Tables) (g i k : ℕ) : Type 0 where
  pub key : k ≤ KEY_MAX
  pub installed : IsInstalled t g
  pub reached : IsOnPath p t g i k

-- the slot has a key
pub record HasKey (s : KeyState) : Type 0 where
  pub key : ℕ
  pub is : s ≡ Claimed key

-- the second value may stand in the table above the first: the first is final, or the second is its
-- copy
abbrev pub MayBeAbove : ValueState → ValueState → Type 0
MayBeAbove Null above = ⊥
MayBeAbove Tombstone above = ⊥
MayBeAbove (Live n) above = ⊥
MayBeAbove PrimedNull above = Unit {0}
MayBeAbove PrimedTombstone above = Unit {0}
MayBeAbove (Primed n) above = above ≡ Live n
MayBeAbove (Finished n) above = Unit {0}

-- the key has got a number in the table, which may be gone again
pub record HasGot (p : Plan) (t : Tables) (g k : ℕ) : Type 0 where
  pub slot : ℕ
  pub is_slot : IsSlot p g slot
  pub is : t.key g slot ≡ Claimed k
  pub content : HasContent (t.value g slot)

-- what holds of the tables of each legal history
pub record IsSound (p : Plan) (t : Tables) : Type 0 where
  -- next words are 0 or 1, and the last table's is 0
  pub next_is : (g : ℕ) → (t.next g ≡ 0) ⊎ ((t.next g ≡ 1) × (suc g < generations_of p))
  -- tables are installed one after another, each once the second one below it is complete
  pub ready : (g : ℕ) → t.next (suc g) ≡ 1 → (t.next g ≡ 1) × IsComplete p t g
  -- a claimed slot
  pub claimed : (g i k : ℕ) → IsSlot p g i → t.key g i ≡ Claimed k → IsClaimedRight p t g i k
  -- a closed slot, or a primed value, is in a table that has a next one
  pub dead : (g i : ℕ) → IsSlot p g i → t.key g i ≡ Dead → t.next g ≡ 1
  pub growing : (g i : ℕ) → IsSlot p g i → IsUnprimed (t.value g i) ⊎ (t.next g ≡ 1)
  -- only a claimed slot has a value
  pub bare : (g i : ℕ) → IsSlot p g i → (t.value g i ≡ Null) ⊎ HasKey (t.key g i)
  -- a key gets into the next table from this one, or once this one is complete
  pub below : (g k : ℕ) → suc g < generations_of p → HasSlot p t (suc g) k → HasSlot p t g k
      ⊎ IsComplete p t g
  -- a key's values in two tables
  pub above :
      (g i j k : ℕ) → IsSlot p g i → IsSlot p (suc g) j → t.key g i ≡ Claimed k
      → t.key (suc g) j ≡ Claimed k
      → (t.value (suc g) j ≡ Null) ⊎ MayBeAbove (t.value g i) (t.value (suc g) j)
  -- a finished number has been copied
  pub moved : (g i k n : ℕ) → IsSlot p g i → t.key g i ≡ Claimed k → t.value g i ≡ Finished n
      → HasGot p t (suc g) k

-- ---- slots

-- every distance on a path is a slot's
pub path_slot-is_slot :
    (p : Plan) → IsPlan p → (g k d : ℕ) → g < generations_of p → IsSlot p g (path_slot p g k d)
path_slot-is_slot p plan g k d within =
    (within, mod_below (k + d) (size_of p g) (omega (arith, four-le-size_of p g plan within)))

-- one claim names one key
pub claimed-same : {j k : ℕ} → Claimed j ≡ Claimed k → j ≡ k
claimed-same e = cc

-- a slot has one key
pub one_key :
    (t : Tables) (f g i j k l : ℕ) → f ≡ g → i ≡ j → t.key f i ≡ Claimed k → t.key g j ≡ Claimed l
    → k ≡ l
one_key t f g i j k l same_table same_slot i_is j_is = cc

-- a slot of another key isn't the key's
other-not : (s : KeyState) (k : ℕ) → IsOther s k → s ≡ Claimed k → ⊥
other-not s k other is = let e : Claimed other.other ≡ Claimed k = sym other.is ∙ is in
    other.differs (claimed-same e)

-- a slot that is empty or closed is no key's
pub empty-unclaimed : {s : KeyState} → s ≡ Empty → (k : ℕ) → s ≢ Claimed k
empty-unclaimed empty k is = let e : Empty ≡ Claimed k = sym empty ∙ is in cc

pub dead-unclaimed : {s : KeyState} → s ≡ Dead → (k : ℕ) → s ≢ Claimed k
dead-unclaimed dead k is = let e : Dead ≡ Claimed k = sym dead ∙ is in cc

-- the key has no slot in the table
abbrev pub HasNoSlot : Plan → Tables → ℕ → ℕ → Type 0
HasNoSlot p t g k = (i : ℕ) → i < size_of p g → t.key g i ≢ Claimed k

-- a value is final, or not primed yet, and not both
pub unprimed-not_final : (v : ValueState) → IsUnprimed v → IsFinishedValue v → ⊥
unprimed-not_final Null unprimed final = no_true final
unprimed-not_final Tombstone unprimed final = no_true final
unprimed-not_final (Live n) unprimed final = no_true final
unprimed-not_final _ unprimed final = unprimed

-- a finished slot with a key has a final value
pub finished-value :
    (t : Tables) (g i k : ℕ) → IsFinished t g i → t.key g i ≡ Claimed k
    → IsFinishedValue (t.value g i)
finished-value t g i k (inl dead) is = absurd (dead-unclaimed dead k is)
finished-value t g i k (inr final) is = final

-- ---- what the invariant says

module _ (p : Plan) (t : Tables) (s : IsSound p t) where
  -- A key has no slot in a table where other keys have its path up to a slot that is no key's,
  pub no_slot-past :
      (g k d : ℕ) → g < generations_of p → AreOthers p t g k d
      → ((j : ℕ) → t.key g (path_slot p g k d) ≢ Claimed j) → HasNoSlot p t g k
  no_slot-past g k d within others unclaimed i below is =
      let reached = (s.claimed g i k (within, below) is).reached in
      let at : t.key g (path_slot p g k reached.distance) ≡ Claimed k = ap (t.key g) reached.at
      ∙ is in
      elim (cases_order reached.distance d) [
        | inl same ↦ unclaimed k (ap (λ d. t.key g (path_slot p g k d)) (sym same) ∙ at)
        | inr (inl before) ↦ other-not _ k (others reached.distance before) at
        | inr (inr after) ↦ (let other = reached.passed d after in unclaimed other.other other.is)
      ]

  -- or have all of it.
  pub no_slot-whole : (g k : ℕ) → g < generations_of p → AreOthers p t g k (size_of p g)
      → HasNoSlot p t g k
  no_slot-whole g k within others i below is =
      let reached = (s.claimed g i k (within, below) is).reached in
      other-not _ k (others reached.distance reached.in_table) (ap (t.key g) reached.at ∙ is)

  -- a key has one slot in a table at most
  pub one_slot : (g i j k : ℕ) → IsSlot p g i → IsSlot p g j → t.key g i ≡ Claimed k
      → t.key g j ≡ Claimed k → i ≡ j
  one_slot g i j k i_slot j_slot i_is j_is =
      let a = (s.claimed g i k i_slot i_is).reached in
      let b = (s.claimed g j k j_slot j_is).reached in
      elim (cases_order a.distance b.distance) [
        | inl same ↦ sym a.at ∙ ap (path_slot p g k) same ∙ b.at
        | inr (inl before) ↦ absurd (other-not _ k (b.passed a.distance before) (ap (t.key g) a.at
            ∙ i_is))
        | inr (inr after) ↦ absurd (other-not _ k (a.passed b.distance after) (ap (t.key g) b.at
            ∙ j_is))
      ]

  -- a slot without a key has no value
  unclaimed-null : (g i : ℕ) → IsSlot p g i → ((k : ℕ) → t.key g i ≢ Claimed k) → t.value g i ≡ Null
  unclaimed-null g i slot unclaimed =
      elim (s.bare g i slot) [
        | inl null ↦ null
        | inr key ↦ absurd (unclaimed key.key key.is)
      ]

  pub empty-null : (g i : ℕ) → IsSlot p g i → t.key g i ≡ Empty → t.value g i ≡ Null
  empty-null g i slot empty = unclaimed-null g i slot (empty-unclaimed empty)

  pub dead-null : (g i : ℕ) → IsSlot p g i → t.key g i ≡ Dead → t.value g i ≡ Null
  dead-null g i slot dead = unclaimed-null g i slot (dead-unclaimed dead)

  -- a finished slot isn't empty
  pub finished-not_empty : (g i : ℕ) → IsSlot p g i → IsFinished t g i → t.key g i ≢ Empty
  finished-not_empty g i slot (inl dead) empty = let e : Empty ≡ Dead = sym empty ∙ dead in cc
  finished-not_empty g i slot (inr final) empty =
      no_true (subst IsFinishedValue (empty-null g i slot empty) final)

  -- a table with a next one isn't the last
  pub next-within : (g : ℕ) → t.next g ≡ 1 → suc g < generations_of p
  next-within g is =
      elim (s.next_is g) [
        | inl none ↦ absurd (omega arith)
        | inr some ↦ some.1
      ]

  -- a table with a primed value has a next one
  pub primed-growing : (g i : ℕ) → IsSlot p g i → (IsUnprimed (t.value g i) → ⊥) → t.next g ≡ 1
  primed-growing g i slot primed =
      elim (s.growing g i slot) [
        | inl unprimed ↦ absurd (primed unprimed)
        | inr next ↦ next
      ]

  -- so has one with a finished slot
  pub finished-growing : (g i : ℕ) → IsSlot p g i → IsFinished t g i → t.next g ≡ 1
  finished-growing g i slot (inl dead) = s.dead g i slot dead
  finished-growing g i slot (inr final) =
      primed-growing g i slot (λ unprimed. unprimed-not_final (t.value g i) unprimed final)

  -- tables up to an installed one are installed
  pub installed-below : (f g : ℕ) → g < suc f → IsInstalled t f → IsInstalled t g
  installed-below zero g below installed =
      below_suc (IsInstalled t) 0 installed (λ f none. absurd (omega arith)) g below
  installed-below (suc f) g below installed =
      below_suc (IsInstalled t) (suc f) installed
      (λ g less. installed-below f g less (next_below f installed)) g below
    where
      next_below : (g : ℕ) → IsInstalled t (suc g) → IsInstalled t g
      next_below zero installed = tt
      next_below (suc g) installed = (s.ready g installed).0

  -- each table two below an installed one, or lower, is complete
  pub complete-below : (f g : ℕ) → suc g < f → IsInstalled t f → IsComplete p t g
  complete-below zero g below installed = absurd (omega arith)
  complete-below (suc zero) g below installed = absurd (omega arith)
  complete-below (suc (suc f)) g below installed =
      let ready = s.ready f installed in
      below_suc (IsComplete p t) f ready.1
      (λ g less. complete-below (suc f) g (omega arith) ready.0) g (omega arith)

-- a complete table has a next one
pub complete-growing :
    (p : Plan) (t : Tables) → IsPlan p → IsSound p t → (g : ℕ) → g < generations_of p
    → IsComplete p t g → t.next g ≡ 1
complete-growing p t plan s g within complete =
    let some : 0 < size_of p g = omega (arith, four-le-size_of p g plan within) in
    finished-growing p t s g 0 (within, some) (complete 0 some)
