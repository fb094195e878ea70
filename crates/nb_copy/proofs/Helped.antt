-- How a chunk is taken, copied and counted.
use Rattle.std.proofs.Common.{◌≡◌, ◌∙◌, ℕ, ◌+◌, ◌-◌, ◌*◌, ◌/◌, ◌≤◌, ◌<◌, ◌==◌, cond, min, List, [], ◌∷◌, ◌++◌, drop, length, ap, sym, subst, subst₂, refl, arith}
use Rattle.std.specs.List.{All}
use Rattle.std.proofs.Math.Nat.{div-mul-le_self, le-min, le_trans, min-le_left, min-le_right, mul-le-mul_left, mul-le-mul_right}
use Rattle.std.proofs.Math.Pow.{pow_mono}
use Rattle.std.proofs.lemmas.List.Elements.{All-get_or}
use Rattle.std.proofs.lemmas.Bool.{ne_eqb}
use Rattle.std.proofs.lemmas.List.{append-nil}
use Rattle.nb_core.specs.Plans.{IsPlan, Plan, generations_of, size_of}
use Rattle.nb_core.specs.Tables.{IsFinished, chunk_of, tables_at}
use Rattle.nb_core.specs.declared.events.Event.TheVariants.{Take}
use Rattle.nb_table.specs.Chains.{ChainOf, Extended, IsOwn, SeenBy, seen_before, seen_by}
use Rattle.nb_core.proofs.Theorems.{counted}
use Rattle.nb_table.proofs.Theorems.{steps_add_up}
use Rattle.nb_copy.proofs.Adding.{copied-adds}
use Rattle.nb_copy.proofs.Copied.{copied-more, copied-own, copied-within}
use Rattle.nb_copy.proofs.Counted.{copied-counting, copied-take}
use Rattle.nb_copy.specs.Copying.{HasCopied}
use Rattle.nb_copy.specs.Handing.{HasHelped, IsHanded, IsRaised, adds_of, chunk_steps, looks_of, slot_steps}

-- one add of so many slots, or none where there are none
abbrev pub one_add : ℕ → List ℕ
one_add n = cond (n == 0) [] (n ∷ [])

none : (n : ℕ) → 0 + n ≡ n
none n = omega arith

-- an add after copying that made none
pub counted-adds :
    (n : ℕ) {adds so_far before : List ℕ} → 0 < n → adds ≡ n ∷ so_far → so_far ≡ before
    → adds ≡ one_add n ++ before
counted-adds n {adds} {so_far} {before} some is same =
    is ∙ ap (λ rest. n ∷ rest) same
    ∙ ap (λ b. cond b [] (n ∷ []) ++ before) (sym (ne_eqb n 0 (λ zero. omega (arith, zero, some))))

-- the slots of a chunk are those up to its end, which is the table's end at most
module _ (p : Plan) (g start : ℕ) {end : ℕ} (ends : end ≡ min (size_of p g) (start + chunk_of p g))
  where
    table-end : end ≤ size_of p g
    table-end = let low = min-le_left (size_of p g) (start + chunk_of p g) in
        omega (arith, ends, low)

    chunk-end : end ≤ start + chunk_of p g
    chunk-end = let low = min-le_right (size_of p g) (start + chunk_of p g) in
        omega (arith, ends, low)

    pub handed-below : (i : ℕ) → IsHanded p g start i → i < end
    handed-below i handed =
        let low : i + 1 ≤ min (size_of p g) (start + chunk_of p g) =
        le-min (omega (arith, handed.2)) (omega (arith, handed.1)) in
        omega (arith, low, ends)

    pub below-handed : (i : ℕ) → (start ≤ i) × (i < end) → IsHanded p g start i
    below-handed i within = (
      within.0,
      omega (arith, within.1, chunk-end),
      omega (arith, within.1, table-end),
    )

    -- they are no more than a chunk, and so are the steps for them
    pub chunk-bound : (most : ℕ) → (end - start) * most ≤ chunk_of p g * most
    chunk-bound most = mul-le-mul_right most (omega (arith, chunk-end))

-- a table has four slots at least, and so has a chunk
pub four-handed : (p : Plan) → IsPlan p → (g : ℕ) → g < generations_of p → 4 ≤ chunk_of p g
four-handed p plan g table =
    let exponent = All-get_or (λ e. (2 ≤ e) × (e ≤ 28)) p.exponents g 0 table plan.sizes in
    le-min (pow_mono exponent.0) (omega (arith, pow_mono plan.chunk.1, plan.chunk.3))

-- what it costs to take and to count the chunks of a table, and to look at the top word, is no more
-- than a step for each slot
chunks-bound :
    (size chunk n most : ℕ) → 4 ≤ size → 4 ≤ chunk → n * chunk ≤ size
    → n * (chunk * most + 3) + looks_of size ≤ size * (most + 1)
chunks-bound size chunk n most some four within =
    let copied = mul-le-mul_right most within in
    let counted = mul-le-mul_left n four in
    grind (arith, some, within, copied, counted)

module _ (chain : ChainOf) (g : ℕ) (table : g < generations_of chain.shape) where
  abbrev p : Plan
  p = chain.shape

  -- the take word from which a seat was handed its chunk
  taken-at :
      {before then : SeenBy} {start : ℕ} → (step :
      Extended p before then (Take before.number g ∷ []) 1)
      → (seen_before p then).taken g ≡ start → (tables_at p (step.others ++ before.seen)).taken g
      ≡ start
  taken-at {before} {then} step found =
      ap (λ h. (tables_at p (drop 1 h)).taken g) (sym step.seen) ∙ found

  -- slots that were copied, and then counted
  pub counted-after :
      {start before after : SeenBy} {slots : List ℕ} {adding most : ℕ} → IsOwn chain start
      → HasCopied p g start before slots 0 0 most
      → HasCopied p g before after [] 0 adding 2
      → HasCopied p g start after slots 0 adding (most + 2)
  counted-after {start} {before} {after} {slots} {adding} {most} own copied counted =
      subst (λ n. HasCopied p g start after slots 0 n (most + 2)) (none adding)
      (copied-more chain g table (copied-own chain g table own copied) copied counted)

  -- a chunk that was taken, copied and counted
  pub helped :
      {before then after : SeenBy} {slots : List ℕ} {adding most : ℕ} (start : ℕ)
      → IsOwn chain before
      → Extended p before then (Take before.number g ∷ []) 1 → (seen_before p then).taken g ≡ start
      → HasCopied p g then after slots 0 adding most → most ≤ chunk_of p g * slot_steps p g + 2
      → length slots ≡ adding
      → ((i : ℕ) → IsHanded p g start i → IsFinished (seen_by p after) g i)
      → All (IsHanded p g start) slots
      → adds_of after.seen before.number g ≡ one_add adding ++ adds_of then.seen before.number g
      → (size_of p g ≤ start → (adding ≡ 0) × (after.steps ≡ then.steps))
      → (1 ≤ adding → IsRaised p g after)
      → HasHelped p g before after adding
  helped {before} {then} {after} {slots} {adding} {most}
      start own step found work few number finished handed once idle raised =
      let take = copied-take p g before then step in
      let all = copied-more chain g table (steps_add_up.own own (steps_add_up.one step))
      take work in
      record {
        slots = slots;
        number = number;
        copied = copied-within (1 + most) (chunk_steps p g) (omega (arith, few))
            (subst₂ (λ s n. HasCopied p g before after s 1 n (1 + most)) (append-nil slots)
            (none adding) all);
        since = work.grown.later;
        others = step.others;
        asked = work.grown.seen ∙ ap (λ h. work.grown.later ++ h) step.seen;
        start = start;
        stood = taken-at step found;
        finished = finished;
        handed = handed;
        counted_once = once
            ∙ ap (λ adds. one_add adding ++ adds) (copied-adds before.number refl take);
        idle = λ past. ((idle past).0, (idle past).1 ∙ step.steps);
        raised = raised;
      }

  -- one chunk more
  pub helped-more :
      {start before after : SeenBy} {slots : List ℕ} {turned : ℕ} (taken : ℕ) → IsOwn chain start
      → HasCopied p g start before slots taken (length slots) (taken * chunk_steps p g)
      → HasHelped p g before after turned
      → (slots : List ℕ) × HasCopied p g start after slots (taken + 1) (length slots)
      ((taken + 1) * chunk_steps p g)
  helped-more {slots = slots} taken own so_far chunk = (
    chunk.slots ++ slots,
    copied-within (taken * chunk_steps p g + chunk_steps p g) ((taken + 1) * chunk_steps p g)
        (omega arith)
        (copied-counting chain g table own so_far chunk.number chunk.copied),
  )

  -- the chunks of the table
  pub helped-all :
      {start after : SeenBy} (taken : ℕ) → IsOwn chain start → taken ≤ size_of p g / chunk_of p g
      → (slots : List ℕ) × HasCopied p g start after slots taken (length slots)
      (taken * chunk_steps p g)
      → (slots : List ℕ) × (chunks : ℕ) × (most : ℕ) × (chunks ≤ size_of p g / chunk_of p g)
      × (most + looks_of (size_of p g) ≤ size_of p g * (slot_steps p g + 1))
      × HasCopied p g start after slots chunks (length slots) most
  helped-all taken own few copied = (
    copied.0,
    taken,
    taken * chunk_steps p g,
    few,
    chunks-bound (size_of p g) (chunk_of p g) taken (slot_steps p g)
        (le_trans (four-handed p own.plan g table) (min-le_left (size_of p g) p.chunk))
        (four-handed p own.plan g table)
        (le_trans (mul-le-mul_right (chunk_of p g) few)
        (div-mul-le_self (size_of p g) (chunk_of p g))),
    copied.1,
  )
