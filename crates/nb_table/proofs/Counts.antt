-- What the steps may do that hand out chunks, count and promote, and what they tell.
use Rattle.std.proofs.Common.{◌≡◌, ◌∙◌, ℕ, zero, suc, ◌+◌, ◌%◌, ◌^◌, ◌<◌, ◌≤◌, false, leb, max, List, [], ◌∷◌, ◌++◌, drop, length, slice_index, slice_set, ap, sym, subst, refl, inl, inr, arith}
use Rattle.std.proofs.Math.Nat.{eq-or-lt_of_le, le_trans, max-eq_right, mod-eq_of_lt}
use Rattle.std.proofs.lemmas.Bool.{cases_lt, eq-eqb, le-leb, leb-true, lt-leb}
use Rattle.std.proofs.lemmas.Bool.Decides.{nat_tests}
use Rattle.std.proofs.lemmas.List.{get_or-set_same}
use Rattle.std.proofs.lemmas.List.Elements.{All-get_or}
use Rattle.std.proofs.Math.Pow.{pow_mono}
use Rattle.nb_core.specs.Plans.{IsPlan, Plan, Header, Top, generations_of, header_place, size_of, word_count}
use Rattle.nb_core.specs.Tables.{IsComplete, IsInstalled, chunk_of, tables_at, words_of}
use Rattle.nb_core.specs.History.{IsLegal, counted_by, turned_by}
use Rattle.nb_core.specs.Laws.{over_seats}
use Rattle.nb_core.specs.declared.events.Event.{Event}
use Rattle.nb_core.specs.declared.events.Event.TheVariants.{Take, Count, Promote}
use Rattle.nb_table.proofs.Following.{if-follows, later, none-follows, one-follows}
use Rattle.nb_table.specs.Chains.{Extended, SeenBy, seen_before, seen_by}
use Rattle.nb_table.specs.Conditions.{IsKnownComplete}
use Rattle.nb_table.specs.Events.{only}
use Rattle.nb_table.proofs.Events.{count_events, promote_events, take_events}
use Rattle.nb_table.proofs.Tops.{top-few}
use Rattle.nb_table.specs.Steps.{Can, Stepped}
use Rattle.nb_core.proofs.Theorems.{beginnings_are_legal, counted, lawful_words, own_lasts, indices_are_distinct}

-- ---- what may be done

-- the index of a header word is one of the chain's
pub header-within : (p : Plan) → IsPlan p → (g n index : ℕ) → g < generations_of p → n < 3
    → index ≡ header_place p g n → index < word_count p
header-within p plan g n index table header at =
    subst (λ i. i < word_count p) (sym at)
    ((indices_are_distinct p plan).below (Header g n) (table, header))

-- a chunk may be taken of a table that has a next one
pub can-take : (p : Plan) (number g : ℕ) (seen : List Event) → g < generations_of p
    → IsInstalled (tables_at p seen) (suc g) → (index chunk : ℕ) → index ≡ header_place p g 1
    → chunk ≡ chunk_of p g
    → Can p (take_events number g) number seen index (λ found. (found + chunk) % 2 ^ 64)
can-take p number g seen table growing index chunk at is =
    subst (λ i. Can p (take_events number g) number seen i (λ found. (found + chunk) % 2 ^ 64))
    (sym at)
    (subst (λ n. Can p (take_events number g) number seen (header_place p g 1)
    (λ found. (found + n) % 2 ^ 64)) (sym is)
    (λ plan seat others not_own legal.
    one-follows p (Take number g) number (header_place p g 1) _ (others ++ seen)
    (legal, (seat, table), (later p number seen plan others legal).installed (suc g) growing, tt)
    refl refl))

-- slots may be counted that the seat's own events turned, and that it hasn't counted
pub can-count : (p : Plan) (number g c : ℕ) (seen : List Event) → g < generations_of p → 1 ≤ c
    → counted_by seen number g + c ≤ turned_by p seen number g → (index : ℕ)
    → index ≡ header_place p g 2
    → Can p (count_events number g c) number seen index (λ found. (found + c) % 2 ^ 64)
can-count p number g c seen table some turned index at =
    subst (λ i. Can p (count_events number g c) number seen i (λ found. (found + c) % 2 ^ 64))
    (sym at)
    (λ plan seat others not_own legal.
    let still = own_lasts p others seen number not_own in
    let turned' : counted_by (others ++ seen) number g + c ≤ turned_by p (others ++ seen) number g
    = subst (λ n. counted_by (others ++ seen) number g + c ≤ n) (sym (still.turned g))
    (subst (λ n. n + c ≤ turned_by p seen number g) (sym (still.counted g)) turned) in
    one-follows p (Count number g c) number (header_place p g 2) _ (others ++ seen)
    (legal, (seat, table), record { some = some; own = turned' }, tt) refl refl)

-- a table that is known to be complete is: by its slots, or as its count is its size
known-complete :
    (p : Plan) → IsPlan p → (h : List Event) → IsLegal p h → (g : ℕ) → g < generations_of p
    → IsKnownComplete p (tables_at p h) g → IsComplete p (tables_at p h) g
known-complete p plan h legal g table known =
    elim known [
      | inl complete ↦ complete
      | inr whole ↦ (counted p plan h legal g table).whole whole
    ]

-- the top word may be raised past a complete table
pub can-promote : (p : Plan) (number g : ℕ) (seen : List Event) → g < generations_of p
    → IsKnownComplete p (tables_at p seen) g → (least : ℕ) → least ≡ g + 1
    → Can p (promote_events number g) number seen 0 (λ found. max found least)
can-promote p number g seen table known least is plan seat others not_own legal =
    let h = others ++ seen in
    let complete = known-complete p plan seen (beginnings_are_legal p others seen legal) g table
    known in
    let found = slice_index (words_of p h) 0 in
    let next : suc g ≡ least = omega (arith, is) in
    if-follows p (leb found g) (Promote number g) number 0 (max found least) h
    (λ low. one-follows p (Promote number g) number 0 (max found least) h (
      legal,
      (seat, table),
      record {
        complete = (later p number seen plan others legal).complete g table complete;
        higher = leb-true found g low;
      },
      tt,
    ) (ap (λ n. slice_set (words_of p h) 0 (max found n)) next) refl)
    (λ high. none-follows p number 0 (max found least) h legal (stays found g least is high))
  where
    stays : (found g least : ℕ) → least ≡ g + 1 → leb found g ≡ false → max found least ≡ found
    stays found g least is high = grind (arith, nat_tests)

-- the word that a step finds at the top is the number of a table
pub top-found :
    (p : Plan) → IsPlan p → (events : ℕ → List Event) (before : SeenBy) (found : ℕ) (after : SeenBy)
    → Stepped p events 0 before found after → found ≤ 16
top-found p plan events before found after step =
    let h = step.grows.others ++ before.seen in
    let legal = beginnings_are_legal p (events found) h
    (subst (IsLegal p) step.grows.seen step.grows.legal) in
    omega (arith, top-few p plan h legal, step.word)

-- ---- the done word doesn't wrap

-- what one seat has is within what all have
one-of-all : (f : ℕ → ℕ) (n i : ℕ) → i < n → f i ≤ over_seats f n
one-of-all f zero i below = absurd (omega arith)
one-of-all f (suc n) i below = elim (eq-or-lt_of_le {n = i} {m = n} (omega arith)) as
    (λ either. f i ≤ f n + over_seats f n) [
      | inl same ↦ subst (λ m. f i ≤ f m + over_seats f n) same (omega arith)
      | inr less ↦ omega (arith, one-of-all f n i less)
    ]

-- a seat has counted what it just counts
own-counted : (number g c : ℕ) (h : List Event) → c ≤ counted_by (Count number g c ∷ h) number g
own-counted number g c h = rw (eq-eqb number number refl) (rw (eq-eqb g g refl) (omega arith))

-- the most slots that a table has
size-fits : (p : Plan) → IsPlan p → (g : ℕ) → g < generations_of p → size_of p g ≤ 2 ^ 28
size-fits p plan g table =
    pow_mono (All-get_or (λ e. (2 ≤ e) × (e ≤ 28)) p.exponents g 0 table plan.sizes).1

-- two counts of slots of a table add up to one
one-sum :
    (found c size : ℕ) → found ≤ size → c ≤ size → size ≤ 2 ^ 28 → (found + c) % 2 ^ 64 ≡ found + c
one-sum found c size a b most = mod-eq_of_lt (omega arith)

-- ---- what a step told

module _ (p : Plan) (events : ℕ → List Event) (index found : ℕ) (before after : SeenBy)
    (step : Stepped p events index before found after) where
  -- the history that the step found
  abbrev met : List Event
  met = step.grows.others ++ before.seen

  -- it is legal with the step's events
  legal_now : IsLegal p (events found ++ met)
  legal_now = subst (IsLegal p) step.grows.seen step.grows.legal

  -- and is all that the seat has seen
  seen_now : seen_by p after ≡ tables_at p (events found ++ met)
  seen_now = ap (tables_at p) step.grows.seen

module _ (p : Plan) (plan : IsPlan p) where
  -- a header word that was just written
  written : (h : List Event) → IsLegal p h → (g n new : ℕ) → g < generations_of p → n < 3
      → slice_index (slice_set (words_of p h) (header_place p g n) new) (header_place p g n) ≡ new
  written h legal g n new table header =
      get_or-set_same (words_of p h) (header_place p g n) new 0
      (subst (λ m. header_place p g n < m) (sym (lawful_words p plan h legal).length)
      (header-within p plan g n _ table header refl))

  module _ (g index found : ℕ) (before after : SeenBy) (table : g < generations_of p) where
    -- the done word after a count
    pub counts-sees : (c : ℕ) → index ≡ header_place p g 2
        → Stepped p (count_events before.number g c) index before found after
        → (seen_by p after).counted g ≡ found + c
    counts-sees c at step =
        let h = met p (count_events before.number g c) index found before after step in
        let legal = legal_now p (count_events before.number g c) index found before after step in
        let now = ap (λ t. t.counted g) (seen_now p (count_events before.number g c)
        index found before after step) in
        let is_found : slice_index (words_of p h) (header_place p g 2) ≡ found
        = ap (slice_index (words_of p h)) (sym at) ∙ step.word in
        let new = counted p plan (Count before.number g c ∷ h) legal g table in
        let share : c ≤ (tables_at p (Count before.number g c ∷ h)).counted g
        = subst (λ n. c ≤ n) (sym new.done)
        (le_trans (own-counted before.number g c h)
        (one-of-all (λ s. counted_by (Count before.number g c ∷ h) s g)
        p.seats before.number legal.1.0)) in
        now
        ∙ written h legal.0 g 2 ((slice_index (words_of p h) (header_place p g 2) + c) % 2 ^ 64)
        table (omega arith)
        ∙ ap (λ n. (n + c) % 2 ^ 64) is_found
        ∙ one-sum found c (size_of p g) (subst (λ n. n ≤ size_of p g) is_found
        (counted p plan h legal.0 g table).fits)
        (le_trans share new.fits) (size-fits p plan g table)

-- what a take tells of the take word before it
pub taken : (p : Plan) (g index found : ℕ) (before after : SeenBy) → index ≡ header_place p g 1
    → Stepped p (take_events before.number g) index before found after
    → (seen_before p after).taken g ≡ found
taken p g index found before after at step =
    ap (λ h. (tables_at p (drop 1 h)).taken g) step.grows.seen
    ∙ ap (slice_index (words_of p (step.grows.others ++ before.seen))) (sym at) ∙ step.word

-- what a promotion tells that raised the top word
pub raised :
    (p : Plan) → IsPlan p → (g found : ℕ) (before after : SeenBy)
    → Stepped p (promote_events before.number g) 0 before found after → found ≤ g
    → Extended p before after (Promote before.number g ∷ []) 1 × ((seen_before p after).top ≡ found)
    × ((seen_by p after).top ≡ suc g)
raised p plan g found before after step low =
    let h = step.grows.others ++ before.seen in
    let own : promote_events before.number g found ≡ Promote before.number g ∷ []
    = ap (λ b. only b (Promote before.number g)) (le-leb found g low) in
    let grows = subst (λ own. Extended p before after own 1) own step.grows in
    let legal : IsLegal p (Promote before.number g ∷ h)
    = subst (IsLegal p) (step.grows.seen ∙ ap (λ own. own ++ h) own) step.grows.legal in
    let top = ap (tables_at p) (step.grows.seen ∙ ap (λ own. own ++ h) own) in
    let below = ap (λ s. tables_at p (drop 1 s)) (step.grows.seen ∙ ap (λ own. own ++ h) own) in
    let some : 0 < length (words_of p h) =
    subst (λ n. 0 < n) (sym (lawful_words p plan h legal.0).length)
    ((indices_are_distinct p plan).below Top tt) in
    let most : max found (suc g) ≡ suc g = max-eq_right (omega (arith, low)) in (
      grows,
      ap (λ t. t.top) below ∙ step.word,
      ap (λ t. t.top) top ∙ get_or-set_same (words_of p h) 0
          (max (slice_index (words_of p h) 0) (suc g)) 0 some
          ∙ ap (λ n. max n (suc g)) step.word ∙ most,
    )

-- and of one that found it higher
pub was-higher :
    (p : Plan) (g found : ℕ) (before after : SeenBy)
    → Stepped p (promote_events before.number g) 0 before found after → g < found
    → Extended p before after [] 1 × ((seen_by p after).top ≡ found)
was-higher p g found before after step high =
    let none : promote_events before.number g found ≡ []
    = ap (λ b. only b (Promote before.number g)) (lt-leb found g high) in
    let now = step.grows.seen ∙ ap (λ own. own ++ (step.grows.others ++ before.seen)) none in (
      subst (λ own. Extended p before after own 1) none step.grows,
      ap (λ h. (tables_at p h).top) now ∙ step.word,
    )

-- in both cases the top word is then what was found, or past the table if that is higher
pub promoted :
    (p : Plan) → IsPlan p → (g found : ℕ) (before after : SeenBy)
    → Stepped p (promote_events before.number g) 0 before found after
    → max found (g + 1) ≡ (seen_by p after).top
promoted p plan g found before after step =
    elim (cases_lt g found) [
      | inl high ↦ omega (arith, high, (was-higher p g found before after step high).1)
      | inr low ↦ omega (arith, low, (raised p plan g found before after step low).2)
    ]
