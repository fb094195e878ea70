-- The arrays of a shape while its tables are laid out.
use Rattle.std.proofs.Common.{◌≡◌, ◌∙◌, ℕ, ◌+◌, ◌-◌, ◌*◌, ◌^◌, ◌<◌, ◌≤◌, List, [], ◌∷◌, length, take, set, slice_index, get_or, cond, ltb, ap, refl, sym, arith, inl, inr, subst}
use Rattle.std.specs.List.{sum_by, All}
use Rattle.std.proofs.Math.Pow.{pow_mono}
use Rattle.std.proofs.lemmas.Bool.{cases_lt, cases_eq, lt-ltb, le-ltb}
use Rattle.std.proofs.lemmas.List.{get_or-set_same, get_or-set_other, get_or_past, get_or-take, length-set, length-take-le, ext_get_or}
use Rattle.std.proofs.lemmas.List.FromFn.{fill_by_all}
use Rattle.std.proofs.lemmas.List.Sums.{sum_by_more, sum_by-cons, sum_by-le, sum_by-take-le}
use Rattle.nb_core.specs.declared.shapes.Shape.TheInside.{Inside}
use Rattle.nb_core.specs.Plans.{Plan, IsPlan, base_of, generations_of, size_of, slots_in, table_words, word_count}
use Rattle.nb_core.specs.Layout.{IsInside, plan_of, inside_of, kept_bases, kept_exponents, kept_lasts}

-- an array of 16 with f at each place below n, and 0 from there on
pub record IsFilled (f : ℕ → ℕ) (xs : List ℕ) (n : ℕ) : Type 0 where
  pub size : length xs ≡ 16
  pub filled : (k : ℕ) → k < n → get_or xs k 0 ≡ f k
  pub empty : (k : ℕ) → n ≤ k → k < 16 → get_or xs k 0 ≡ 0

pub IsFilled-more :
    (f : ℕ → ℕ) (xs : List ℕ) (n v : ℕ) → IsFilled f xs n → n < 16 → v ≡ f n
    → IsFilled f (set xs n v) (n + 1)
IsFilled-more f xs n v h within e = record {
  size = length-set xs n v ∙ h.size;
  filled = λ k below. elim (cases_eq k n) [
    | inl at ↦ ap (λ i. get_or (set xs n v) i 0) at
        ∙ get_or-set_same xs n v 0 (omega (arith, h.size)) ∙ e ∙ ap f (sym at)
    | inr other ↦ get_or-set_other xs n k v 0 other ∙ h.filled k (omega (arith, other))
  ];
  empty = λ k above inside. get_or-set_other xs n k v 0 (λ (at : k ≡ n). absurd (omega arith))
      ∙ h.empty k (omega arith) inside;
}

-- the place past the first n tables
abbrev end_of : List ℕ → ℕ → ℕ
end_of exponents n = 1 + sum_by table_words (take n exponents)

-- the last slot of a table
abbrev last_in : List ℕ → ℕ → ℕ
last_in exponents k = 2 ^ slice_index exponents k - 1

-- the first n tables are laid out
pub record AreLaid (exponents xs zs ys : List ℕ) (end n : ℕ) : Type 0 where
  pub kept : IsFilled (slice_index exponents) xs n
  pub lasts : IsFilled (last_in exponents) zs n
  pub bases : IsFilled (end_of exponents) ys n
  pub words : end ≡ end_of exponents n

-- one more table, of so many words past its headers
pub AreLaid-more :
    (exponents xs zs ys : List ℕ) (end n last words : ℕ) → AreLaid exponents xs zs ys end n
    → n < length exponents → length exponents ≤ 16 → last ≡ last_in exponents n
    → words ≡ 2 * 2 ^ slice_index exponents n
    → AreLaid exponents (set xs n (slice_index exponents n)) (set zs n last) (set ys n end)
    (end + (3 + words)) (n + 1)
AreLaid-more exponents xs zs ys end n last words h within few top e = record {
  kept = IsFilled-more _ xs n _ h.kept (omega arith) refl;
  lasts = IsFilled-more _ zs n _ h.lasts (omega arith) top;
  bases = IsFilled-more _ ys n _ h.bases (omega arith) h.words;
  words = omega (arith, h.words, sum_by_more table_words exponents n 0 within);
}

-- a table is small
pub table-fits :
    (exponents : List ℕ) (n : ℕ) → All (λ e. (2 ≤ e) × (e ≤ 28)) exponents → n < length exponents
    → 2 ^ slice_index exponents n ≤ 2 ^ 28
table-fits exponents n sizes within = let bounds = sizes n 0 within in pow_mono bounds.1

-- the first tables have few slots, however large each is
pub first-few :
    (exponents : List ℕ) (n : ℕ) → All (λ e. (2 ≤ e) × (e ≤ 28)) exponents → length exponents ≤ 16
    → slots_in (take n exponents) ≤ 2 ^ 32
first-few exponents n sizes few =
    let each : All (λ e. 2 ^ e ≤ 268435456) exponents = (λ k d within.
    let most : 2 ^ get_or exponents k d ≤ 2 ^ 28 = pow_mono (sizes k d within).1 in
    omega arith) in
    omega (
      arith,
      sum_by-le (λ e. 2 ^ e) 268435456 exponents each,
      sum_by-take-le (λ e. 2 ^ e) exponents n,
    )

-- the words of tables are three for each table and two for each slot
words-in :
    (exponents : List ℕ) → sum_by table_words exponents
    ≡ 3 * length exponents + 2 * slots_in exponents
words-in [] = refl
words-in (e ∷ es) =
    omega (
      arith,
      sum_by-cons table_words e es,
      sum_by-cons (λ k. 2 ^ k) e es,
      words-in es,
    )

-- the words of the first tables and of one more have places of 32 bits
pub end_of-fits :
    (exponents : List ℕ) (n : ℕ) → length exponents ≤ 16 → slots_in exponents ≤ 2 ^ 30
    → n < length exponents
    → end_of exponents n + (3 + 2 * 2 ^ slice_index exponents n) < 2 ^ 32
end_of-fits exponents n few slots within =
    omega (
      arith,
      sum_by_more table_words exponents n 0 within,
      words-in (take (n + 1) exponents),
      length-take-le (n + 1) exponents (omega (arith, within)),
      sum_by-take-le (λ k. 2 ^ k) exponents (n + 1),
    )

kept_exponents-filled :
    (p : Plan) (xs : List ℕ) → IsFilled (slice_index p.exponents) xs (generations_of p)
    → xs ≡ kept_exponents p
unfolding kept_exponents
kept_exponents-filled p xs h = fill_by_all (slice_index p.exponents) xs 16 0 h.size
    (λ k inside. elim (cases_lt k (generations_of p)) [
      | inl below ↦ h.filled k below
      | inr above ↦ h.empty k above inside ∙ sym (get_or_past p.exponents k 0 above)
    ])

kept_lasts-filled :
    (p : Plan) (xs : List ℕ) → IsFilled (last_in p.exponents) xs (generations_of p)
    → xs ≡ kept_lasts p
unfolding kept_lasts
kept_lasts-filled p xs h = fill_by_all (λ k. cond (ltb k (generations_of p)) (size_of p k - 1) 0)
    xs 16 0 h.size (λ k inside. elim (cases_lt k (generations_of p)) [
      | inl below ↦ h.filled k below ∙ ap (λ b. cond b (size_of p k - 1) 0)
          (sym (lt-ltb k (generations_of p) below))
      | inr above ↦ h.empty k above inside ∙ ap (λ b. cond b (size_of p k - 1) 0)
          (sym (le-ltb k (generations_of p) above))
    ])

kept_bases-filled :
    (p : Plan) (xs : List ℕ) → IsFilled (base_of p) xs (generations_of p) → xs ≡ kept_bases p
unfolding kept_bases
kept_bases-filled p xs h = fill_by_all (λ k. cond (ltb k (generations_of p)) (base_of p k) 0)
    xs 16 0 h.size (λ k inside. elim (cases_lt k (generations_of p)) [
      | inl below ↦ h.filled k below ∙ ap (λ b. cond b (base_of p k) 0)
          (sym (lt-ltb k (generations_of p) below))
      | inr above ↦ h.empty k above inside ∙ ap (λ b. cond b (base_of p k) 0)
          (sym (le-ltb k (generations_of p) above))
    ])

take-filled :
    (exponents xs : List ℕ) → IsFilled (slice_index exponents) xs (length exponents)
    → length exponents ≤ 16 → take (length exponents) xs ≡ exponents
take-filled exponents xs h few =
    let size : length (take (length exponents) xs) ≡ length exponents =
    length-take-le (length exponents) xs (omega (arith, h.size)) in
    ext_get_or 0 _ _ size (λ i below.
    let within : i < length exponents = omega arith in
    get_or-take (length exponents) xs i 0 within ∙ h.filled i within)

-- the fields of a shape whose tables are all laid out
abbrev laid : Plan → List ℕ → List ℕ → List ℕ → ℕ → Inside
laid p xs zs ys end = record {
  exponents = xs;
  lasts = zs;
  bases = ys;
  words = end;
  reprobes = p.reprobes;
  chunk = p.chunk;
  generations = generations_of p;
  seats = p.seats;
  stripes = p.stripes;
}

pub plan_of-laid :
    (p : Plan) (xs zs ys : List ℕ) (end n : ℕ) → IsPlan p → n ≡ generations_of p
    → AreLaid p.exponents xs zs ys end n → plan_of (laid p xs zs ys end) ≡ p
plan_of-laid p xs zs ys end n plan all h =
    ap (λ (es : List ℕ). record p { exponents = es })
    (take-filled p.exponents xs (subst (IsFilled (slice_index p.exponents) xs) all h.kept)
    plan.tables.1)

pub IsInside-laid :
    (p : Plan) (xs zs ys : List ℕ) (end n : ℕ) → IsPlan p → n ≡ generations_of p
    → AreLaid p.exponents xs zs ys end n → IsInside (laid p xs zs ys end)
IsInside-laid p xs zs ys end n plan all h =
    let same : plan_of (laid p xs zs ys end) ≡ p = plan_of-laid p xs zs ys end n plan all h in
    let exponents = kept_exponents-filled p xs
    (subst (IsFilled (slice_index p.exponents) xs) all h.kept) in
    let lasts = kept_lasts-filled p zs
    (subst (IsFilled (last_in p.exponents) zs) all h.lasts) in
    let bases = kept_bases-filled p ys (subst (IsFilled (base_of p) ys) all h.bases) in
    let words : end ≡ word_count p = h.words ∙ ap (base_of p) all in
    let fields : laid p xs zs ys end ≡ inside_of p = cc in
    record { plan = subst IsPlan (sym same) plan; fields = fields ∙ ap inside_of (sym same) }
