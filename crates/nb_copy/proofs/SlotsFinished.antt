-- How a slot is finished.
use Rattle.std.proofs.Common.{◌≡◌, ◌≢◌, ◌∙◌, ◌⊎◌, ℕ, suc, ◌+◌, ◌≤◌, ◌<◌, Bool, true, false, cond, List, [], ◌∷◌, Some, None, ap, sym, subst, refl, inl, inr, arith}
use Rattle.std.proofs.lemmas.Bool.{eq-eqb}
use Rattle.nb_core.specs.Plans.{Plan, generations_of, size_of}
use Rattle.nb_core.specs.Tables.{HasSlot, IsFinished, IsFinishedValue, IsInstalled, IsSlot, IsUnprimed, Tables, IsPassed, IsPrimedOrFinished}
use Rattle.nb_core.specs.History.{is_finished_by_priming, slot_in}
use Rattle.nb_core.specs.States.{primed}
use Rattle.nb_core.specs.Laws.{Lasts}
use Rattle.nb_core.specs.declared.states.KeyState.TheVariants.{Claimed}
use Rattle.nb_core.specs.declared.states.ValueState.{ValueState}
use Rattle.nb_core.specs.declared.states.ValueState.TheVariants.{Null, Tombstone, Live, Primed, Finished}
use Rattle.nb_core.specs.declared.events.Event.TheVariants.{CopyIn, Finish, Kill, Prime}
use Rattle.nb_table.specs.Chains.{ChainOf, Extended, IsOwn, SeenBy, seen_before, seen_by}
use Rattle.nb_table.specs.Conditions.{HasSource, IsCopied}
use Rattle.nb_core.proofs.Theorems.{linked, passed_above}
use Rattle.nb_copy.proofs.Copied.{copied-one, copied-quiet, copied-then, copied-within}
use Rattle.nb_copy.specs.Copying.{HasCopied}

-- ---- what the seat has seen

-- the plan has a next table that is there
pub next-in-plan :
    (chain : ChainOf) (seat : SeenBy) → IsOwn chain seat → (g : ℕ)
    → IsInstalled (seen_by chain.shape seat) (suc g)
    → suc g < generations_of chain.shape
next-in-plan chain seat own g installed =
    (linked chain.shape own.plan seat.seen own.legal).within (suc g) installed

-- where a key of the table is passed in the next one, all slots are finished
pub passed-finished :
    (chain : ChainOf) (seat : SeenBy) → IsOwn chain seat
    → (g i key : ℕ) → suc g < generations_of chain.shape → i < size_of chain.shape g
    → HasSlot chain.shape (seen_by chain.shape seat) g key
    → IsPassed chain.shape (seen_by chain.shape seat) (suc g) key
    → IsFinished (seen_by chain.shape seat) g i
passed-finished chain seat own g i key table slot below passed =
    passed_above chain.shape own.plan seat.seen own.legal g key table below passed i slot

-- a number in a key's slot is one to be copied to the next table
pub number-source :
    (p : Plan) (t u : Tables) → Lasts p t u → (g next i key n : ℕ) → next ≡ suc g → IsSlot p g i
    → t.key g i ≡ Claimed key
    → IsPrimedOrFinished t g i n → HasSource p u next key n
number-source p t u lasting g next i key n is slot claimed held =
    let source : HasSource p u (suc g) key n = (
      i,
      slot.1,
      lasting.claimed g i key slot claimed,
      lasting.primed_or_finished g i n slot held,
    ) in
    subst (λ f. HasSource p u f key n) (sym is) source

-- and it is copied once the key's slot in the next table has a value
pub number-copied :
    (p : Plan) (t u : Tables) → Lasts p t u → (g i j key n : ℕ) → IsSlot p g i
    → t.key g i ≡ Claimed key → IsPrimedOrFinished t g i n
    → j < size_of p (suc g) → u.key (suc g) j ≡ Claimed key → u.value (suc g) j ≢ Null
    → IsCopied p u g i
number-copied p t u lasting g i j key n slot claimed held near above some = record {
  key = key;
  number = n;
  claimed = lasting.claimed g i key slot claimed;
  held = lasting.primed_or_finished g i n slot held;
  copied = record { slot = j; in_table = near; is = above; some = some };
}

-- ---- steps

null-or-not : (v : ValueState) → (v ≡ Null) ⊎ (v ≢ Null)
null-or-not Null = inl refl
null-or-not _ = inr (λ e. cc)

slot-of-table : (g i : ℕ) → slot_in g (Some (g, i)) ≡ i ∷ []
slot-of-table g i = ap (λ b. cond b (i ∷ []) []) (eq-eqb g g refl)

module _ (chain : ChainOf) (g : ℕ) (table : g < generations_of chain.shape) where
  abbrev p : Plan
  p = chain.shape

  -- a copy of a number to the next table, which leaves a value there
  pub copied-in :
      {before after : SeenBy} (s f j key n : ℕ) (v : ValueState) → f ≡ suc g
      → (v ≡ Null → Extended p before after (CopyIn s f j key n ∷ []) 1
      × ((seen_by p after).value f j ≡ Live n))
      → (v ≢ Null → Extended p before after [] 1 × ((seen_by p after).value f j ≡ v))
      → HasCopied p g before after [] 0 0 1 × ((seen_by p after).value (suc g) j ≢ Null)
  copied-in {before} {after} s f j key n v is won lost = elim (null-or-not v) [
    | inl null ↦
        let w = won null in (
          copied-one p g before after (CopyIn s f j key n) [] 0 0 w.0 is refl refl refl,
          λ e. let copied : Live n ≡ Null = sym w.1 ∙ ap (λ x. (seen_by p after).value x j) is
              ∙ e in cc,
        )
    | inr some ↦
        let l = lost some in (
          copied-quiet p g before after l.0,
          λ e. some (sym l.1 ∙ ap (λ x. (seen_by p after).value x j) is ∙ e),
        )
  ]

  -- a step that closed the slot
  pub copied-kill : {before after : SeenBy} (s i : ℕ) → Extended p before after (Kill s g i ∷ []) 1
      → HasCopied p g before after (i ∷ []) 0 0 1
  copied-kill {before} {after} s i step =
      copied-one p g before after (Kill s g i) (i ∷ []) 0 0 step refl (slot-of-table g i) refl refl

  -- a finish of a number that was primed
  pub finished-now :
      {before after : SeenBy} (s i n : ℕ) (v : ValueState) → v ≡ Primed n
      → ((m : ℕ) → v ≡ Primed m → Extended p before after (Finish s g i ∷ []) 1
      × ((seen_by p after).value g i ≡ Finished m))
      → HasCopied p g before after (i ∷ []) 0 0 1 × IsFinished (seen_by p after) g i
  finished-now {before} {after} s i n v is won =
      let w = won n is in (
        copied-one p g before after (Finish s g i) (i ∷ []) 0 0 w.0 refl (slot-of-table g i)
            refl refl,
        inr (subst IsFinishedValue (sym w.1) refl),
      )

  -- and of one that was finished already
  pub finished-before :
      {before after : SeenBy} (i n : ℕ) (v : ValueState) → (v ≡ Primed n) ⊎ (v ≡ Finished n)
      → v ≢ Primed n
      → ((m : ℕ) → v ≡ Finished m → Extended p before after [] 1
      × ((seen_by p after).value g i ≡ Finished m))
      → HasCopied p g before after [] 0 0 1 × IsFinished (seen_by p after) g i
  finished-before {before} {after} i n v held differs lost = elim held [
    | inl is_primed ↦ absurd (differs is_primed)
    | inr is_finished ↦
        let l = lost n is_finished in
        (copied-quiet p g before after l.0, inr (subst IsFinishedValue (sym l.1) refl))
  ]

  -- a search, a copy, and a finish
  pub copied-three :
      {start placed filled after : SeenBy} {slots : List ℕ} (most : ℕ) → IsOwn chain start
      → HasCopied p g start placed [] 0 0 most
      → HasCopied p g placed filled [] 0 0 1 → HasCopied p g filled after slots 0 0 1
      → HasCopied p g start after slots 0 0 (most + 2)
  copied-three most own search copy finish =
      copied-within (most + 1 + 1) (most + 2) (omega arith)
      (copied-then chain g table own (copied-then chain g table own search copy) finish)

  -- a step that primed an unprimed value, and so turned the slot finished if there is nothing to
  -- copy
  primed-now :
      {before after : SeenBy} (s i : ℕ) (v : ValueState)
      → Extended p before after (Prime s g i ∷ []) 1
      → (seen_before p after).value g i ≡ v
      → HasCopied p g before after (cond (is_finished_by_priming v) (i ∷ []) []) 0 0 1
  primed-now {before} {after} s i v step was =
      let slot : ValueState → List ℕ = λ x. slot_in g
      (cond (is_finished_by_priming x) (Some (g, i)) None) in
      let turned : slot ((seen_before p after).value g i) ≡ cond (is_finished_by_priming v) (i ∷ [])
      [] =
      ap slot was ∙ slot-if (is_finished_by_priming v) in
      copied-one p g before after (Prime s g i) _ 0 0 step refl turned refl refl
    where
      slot-if : (b : Bool) → slot_in g (cond b (Some (g, i)) None) ≡ cond b (i ∷ []) []
      slot-if true = slot-of-table g i
      slot-if false = refl

  -- a step that primes a value
  pub copied-prime :
      {before after : SeenBy} (s i : ℕ) (v : ValueState)
      → (IsUnprimed v → Extended p before after (Prime s g i ∷ []) 1
      × ((seen_before p after).value g i ≡ v) × ((seen_by p after).value g i ≡ primed v))
      → ((IsUnprimed v → ⊥) → Extended p before after [] 1 × ((seen_by p after).value g i ≡ v))
      → HasCopied p g before after (cond (is_finished_by_priming v) (i ∷ []) []) 0 0 1
  copied-prime s i Null won lost = let w = won tt in primed-now s i Null w.0 w.1
  copied-prime s i Tombstone won lost = let w = won tt in primed-now s i Tombstone w.0 w.1
  copied-prime s i (Live n) won lost = let w = won tt in primed-now s i (Live n) w.0 w.1
  copied-prime s i _ won lost = copied-quiet p g _ _ (lost (λ e. e)).0

  -- a step that primed a value with nothing to copy, or met a final one
  pub primed-last :
      {before after : SeenBy} (i most : ℕ) (turned turned' : Bool) → turned ≡ turned' → 1 ≤ most
      → HasCopied p g before after (cond turned (i ∷ []) []) 0 0 1
      → HasCopied p g before after (cond turned' (i ∷ []) []) 0 0 most
  primed-last {before} {after} i most turned turned' same some prime =
      copied-within 1 most some (subst (λ b. HasCopied p g before after (cond b (i ∷ []) []) 0 0 1)
      same prime)

  -- a step that primed a number, or met a primed one, and the copying of the number
  pub primed-first :
      {before then after : SeenBy} {slots : List ℕ} (i most : ℕ) (turned : Bool)
      → IsOwn chain before → turned ≡ false
      → HasCopied p g before then (cond turned (i ∷ []) []) 0 0 1
      → HasCopied p g then after slots 0 0 (most + 2)
      → HasCopied p g before after slots 0 0 (most + 3)
  primed-first {before} {then} i most turned own not_turned prime copy =
      copied-within (1 + (most + 2)) (most + 3) (omega arith)
      (copied-then chain g table own (subst
      (λ b. HasCopied p g before then (cond b (i ∷ []) []) 0 0 1) not_turned prime) copy)
