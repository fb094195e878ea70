-- How slots are counted, and chunks and tables are copied.
use Rattle.std.proofs.Common.{◌≡◌, ◌∙◌, ℕ, suc, ◌+◌, ◌-◌, ◌*◌, ◌==◌, ◌&&◌, ◌⊎◌, ◌≤◌, ◌<◌, Bool, true, false, cond, List, [], ◌∷◌, ◌++◌, length, ap, sym, subst, subst₂, refl, inl, inr, arith}
use mir.Val.{bool_byte}
use Rattle.std.proofs.lemmas.Bool.{eq-eqb}
use Rattle.std.specs.List.{All}
use Rattle.std.proofs.lemmas.List.{length-append}
use Rattle.std.proofs.lemmas.List.Elements.{All-append, All-cons, All-nil, All-weaker}
use Rattle.nb_core.specs.Plans.{Plan, generations_of, size_of}
use Rattle.nb_core.specs.Tables.{IsFinished}
use Rattle.nb_core.specs.History.{counted_by, slots_turned, turned_by}
use Rattle.nb_core.specs.declared.events.Event.TheVariants.{Count, Promote, Take}
use Rattle.nb_table.specs.Chains.{ChainOf, Extended, IsOwn, SeenBy, seen_by}
use Rattle.nb_core.proofs.Theorems.{counted}
use Rattle.nb_copy.proofs.Copied.{copied-more, copied-one, copied-own, copied-quiet, copied-stays}
use Rattle.nb_copy.specs.Copying.{HasCopied}

-- ---- what may be counted

pub length-if : (b : Bool) (i : ℕ) → length (cond b (i ∷ []) []) ≡ cond b 1 0
length-if true i = refl
length-if false i = refl

byte-in : (b : Bool) (i : ℕ) → bool_byte b ≡ length (cond b (i ∷ []) [])
byte-in true i = refl
byte-in false i = refl

All-if : (P : ℕ → Type 0) (b : Bool) (i : ℕ) → P i → All P (cond b (i ∷ []) [])
All-if P true i holds = All-cons P i [] holds (All-nil P)
All-if P false i holds = All-nil P

pub byte-small : (b : Bool) → bool_byte b ≤ 1
byte-small true = omega arith
byte-small false = omega arith

-- what a seat has turned, and not counted, it may count
pub may-count :
    (chain : ChainOf) {before after : SeenBy} {slots : List ℕ} {chunks most : ℕ}
    → IsOwn chain before → (g : ℕ) → g < generations_of chain.shape
    → HasCopied chain.shape g before after slots chunks 0 most
    → counted_by after.seen after.number g + length slots
    ≤ turned_by chain.shape after.seen after.number g
may-count chain {before} {after} {slots} own g table copied =
    let p = chain.shape in
    let once = counted p own.plan before.seen own.legal g table in
    let turned : turned_by p after.seen after.number g
    ≡ length slots + turned_by p before.seen before.number g
    = ap (λ n. turned_by p after.seen n g) copied.grown.number ∙ ap length copied.turned
    ∙ length-append slots (slots_turned p before.seen before.number g) in
    let now : counted_by after.seen after.number g ≡ counted_by before.seen before.number g + 0
    = ap (λ n. counted_by after.seen n g) copied.grown.number ∙ copied.counted in
    fits _ _ _ _ _ turned now (once.own before.number)
  where
    fits : (now turned_now was turned_was new : ℕ) → turned_now ≡ new + turned_was → now ≡ was + 0
        → was ≤ turned_was → now + new ≤ turned_now
    fits now turned_now was turned_was new is is' below = omega (arith, is, is', below)

-- ---- steps

module _ (p : Plan) (g : ℕ) where
  -- a step that takes a chunk
  pub copied-take : (before after : SeenBy) → Extended p before after (Take before.number g ∷ []) 1
      → HasCopied p g before after [] 1 0 1
  copied-take before after step = copied-one p g before after (Take before.number g)
      [] 1 0 step refl refl refl refl

  -- a step that counts
  pub copied-count :
      (before after : SeenBy) (c : ℕ) → Extended p before after (Count before.number g c ∷ []) 1
      → HasCopied p g before after [] 0 c 1
  copied-count before after c step =
      copied-one p g before after (Count before.number g c) [] 0 c step refl refl refl
      (ap (λ b. cond (b && (g == g)) c 0) (eq-eqb before.number before.number refl)
      ∙ ap (λ b. cond b c 0) (eq-eqb g g refl))

  -- a step that raises the top word, or finds it high enough
  pub copied-promote :
      (before after : SeenBy) (top : ℕ) → (top ≤ g
      → Extended p before after (Promote before.number g ∷ []) 1
      × ((seen_by p after).top ≡ suc g))
      → (g < top → Extended p before after [] 1 × ((seen_by p after).top ≡ top))
      → HasCopied p g before after [] 0 0 1 × (g < (seen_by p after).top)
  copied-promote before after top raised higher = elim (low-or-high top g) [
    | inl low ↦
        let step = raised low in (
          copied-one p g before after (Promote before.number g) [] 0 0 step.0 refl refl refl refl,
          omega (arith, step.1),
        )
    | inr high ↦ let step = higher high in
        (copied-quiet p g before after step.0, omega (arith, step.1, high))
  ]
    where
      low-or-high : (a b : ℕ) → (a ≤ b) ⊎ (b < a)
      low-or-high a b = grind arith

-- ---- slots and chunks

module _ (chain : ChainOf) (g : ℕ) (table : g < generations_of chain.shape) where
  abbrev p : Plan
  p = chain.shape

  -- the copy of one slot more, which a step of its own turned, or not
  pub copied-slot :
      {start before after : SeenBy} (from i most number n : ℕ) (turned : Bool) → from ≤ i
      → IsOwn chain start → n ≡ bool_byte turned
      → (slots : List ℕ) × (length slots ≡ number) × All (λ j. (from ≤ j) × (j < i)) slots
      × HasCopied p g start before slots 0 0 ((i - from) * most)
      → HasCopied p g before after (cond turned (i ∷ []) []) 0 0 most
      → (slots : List ℕ) × (length slots ≡ number + n) × All (λ j. (from ≤ j) × (j < i + 1)) slots
      × HasCopied p g start after slots 0 0 ((i + 1 - from) * most)
  copied-slot {start} {before} {after} from i most number n turned first own is so_far slot =
      let new = cond turned (i ∷ []) [] in
      let longer = length-append new so_far.0 in
      let is_new : n ≡ length new = is ∙ byte-in turned i in
      let inside : ℕ → Type 0 = λ j. (from ≤ j) × (j < i + 1) in (
        new ++ so_far.0,
        omega (arith, longer, is_new, so_far.1),
        All-append inside new so_far.0 (All-if inside turned i (first, omega arith))
            (All-weaker (λ j. (from ≤ j) × (j < i)) inside (λ j at. (at.0, omega (arith, at.1)))
            so_far.0 so_far.2),
        subst (HasCopied p g start after (new ++ so_far.0) 0 0)
            (one-more (i - from) (i + 1 - from) (omega (arith, first)))
            (copied-more chain g table (copied-own chain g table own so_far.3) so_far.3 slot),
      )
    where
      steps : (d : ℕ) → d * most + most ≡ (d + 1) * most
      steps d = omega arith

      one-more : (d e : ℕ) → d + 1 ≡ e → d * most + most ≡ e * most
      one-more d e is = steps d ∙ ap (λ n. n * most) is

  -- one slot more is finished
  pub finished-slot :
      {before after : SeenBy} {slots : List ℕ} {chunks adding most : ℕ} (from i : ℕ)
      → IsOwn chain before
      → i < size_of p g → ((j : ℕ) → from ≤ j → j < i → IsFinished (seen_by p before) g j)
      → HasCopied p g before after slots chunks adding most → IsFinished (seen_by p after) g i
      → (j : ℕ) → from ≤ j → j < i + 1 → IsFinished (seen_by p after) g j
  finished-slot {before} {after} from i own within so_far copied finished j after_from below =
      elim (below-or-same j i below) [
        | inl lower ↦
            (copied-stays chain g table own copied).finished g j
            (table, omega (arith, lower, within))
            (so_far j after_from lower)
        | inr same ↦ subst (λ k. IsFinished (seen_by p after) g k) (sym same) finished
      ]
    where
      below-or-same : (a b : ℕ) → a < b + 1 → (a < b) ⊎ (a ≡ b)
      below-or-same a b below = grind (arith, below)

  -- more copying, which counted what it turned, as the copying before it did
  pub copied-counting :
      {start before after : SeenBy} {slots slots' : List ℕ} {chunks chunks' adding most most' : ℕ}
      → IsOwn chain start
      → HasCopied p g start before slots chunks (length slots) most → length slots' ≡ adding
      → HasCopied p g before after slots' chunks' adding most'
      → HasCopied p g start after (slots' ++ slots) (chunks + chunks') (length (slots' ++ slots))
      (most + most')
  copied-counting {start} {before} {after} {slots} {slots'} {chunks} {chunks'} {adding} {most}
      {most'} own so_far number copied =
      let longer = length-append slots' slots in
      let all : length slots + adding ≡ length (slots' ++ slots) = omega (arith, longer, number) in
      subst (λ n. HasCopied p g start after (slots' ++ slots) (chunks + chunks') n (most + most'))
      all
      (copied-more chain g table (copied-own chain g table own so_far) so_far copied)

  -- copying, and then steps that neither turned a slot nor counted one
  pub copied-last :
      {start before after : SeenBy} {slots : List ℕ} {chunks adding most most' : ℕ}
      → IsOwn chain start
      → HasCopied p g start before slots chunks adding most
      → HasCopied p g before after [] 0 0 most'
      → HasCopied p g start after slots chunks adding (most + most')
  copied-last {start} {before} {after} {slots} {chunks} {adding} {most} {most'} own so_far last =
      subst₂ (λ c n. HasCopied p g start after slots c n (most + most')) (none chunks) (none adding)
      (copied-more chain g table (copied-own chain g table own so_far) so_far last)
    where
      none : (n : ℕ) → n + 0 ≡ n
      none n = omega arith
