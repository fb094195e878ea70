-- Sums over tallies, and sums modulo 2^64.
use Rattle.std.proofs.Common.{◌≡◌, ◌∙◌, ℕ, zero, suc, ◌+◌, ◌*◌, ◌%◌, ◌^◌, ◌<◌, ◌≤◌, ap, sym, refl, inl, inr, cond, List, [], ◌∷◌, ◌++◌, map, length, ℤ, ◌+ℤ◌, pos, negsuc, length-append, slice_set, arith}
use mathlib.Core.Option.{some}
use Rattle.std.proofs.Math.Nat.{mod-lt}
use Rattle.std.proofs.lemmas.Bool.{cases_lt, eq-eqb, ne_eqb}
use lib.ListN.{get_elem?}
use Rattle.std.proofs.lemmas.Int.{ints, int_wrap-add_left, int_wrap-add_right, of_z-to_z, wrapping_add-bits}
use Rattle.std.proofs.lemmas.List.Sorted.{length_permutation, sum_by-IsPermutation}
use Rattle.std.proofs.lemmas.List.Sums.{sum_by-cons}
use Rattle.std.specs.Int.{cast_signed, cast_unsigned, int_wrap, w64}
use Rattle.std.specs.List.{sum_by}
use Rattle.std.specs.List.Sorted.{IsPermutation}
use Rattle.nb_core.proofs.Seating.{apart}
use Rattle.nb_count.specs.Tallies.{all_of, served, stripe_of, total, wrapped}
use Rattle.nb_count.specs.declared.tally.TheConstants.{SPREAD}
use Rattle.nb_count.specs.declared.tally.Tally.{Tally}

-- ---- sums over a list

-- a number is what it is above 0, less what it is below
abbrev above : ℤ → ℕ
above (pos n) = n
above (negsuc n) = 0

abbrev below : ℤ → ℕ
below (pos n) = 0
below (negsuc n) = suc n

difference : (z : ℤ) → z +ℤ pos (below z) ≡ pos (above z)
difference (pos n) = omega (arith, ints)
difference (negsuc n) = omega (arith, ints)

module _ {X : Type 0} (f : X → ℤ) where
  pub total-append : (xs ys : List X) → total f (xs ++ ys) ≡ total f xs +ℤ total f ys
  total-append [] ys = omega (arith, ints)
  total-append (x ∷ xs) ys = omega (arith, ints, total-append xs ys)

  pub total-map : {Y : Type 0} (g : Y → X) (ys : List Y)
      → total f (map g ys) ≡ total (λ y. f (g y)) ys
  total-map g [] = refl
  total-map g (y ∷ ys) = ap (λ z. f (g y) +ℤ z) (total-map g ys)

  total-difference : (xs : List X)
      → total f xs +ℤ pos (sum_by (λ x. below (f x)) xs) ≡ pos (sum_by (λ x. above (f x)) xs)
  total-difference [] = refl
  total-difference (x ∷ xs) =
      omega (
        arith,
        ints,
        sum_by-cons (λ x. below (f x)) x xs,
        sum_by-cons (λ x. above (f x)) x xs,
        difference (f x),
        total-difference xs,
      )

  -- the order makes no difference
  pub total-permutation : (xs ys : List X) → IsPermutation xs ys → total f xs ≡ total f ys
  total-permutation xs ys are =
      omega (
        arith,
        ints,
        sum_by-IsPermutation (λ x. below (f x)) xs ys are,
        sum_by-IsPermutation (λ x. above (f x)) xs ys are,
        total-difference xs,
        total-difference ys,
      )

-- what one token's tallies make of the sum over all tokens
pub total-set :
    (f : Tally → ℤ) (views : List (List Tally)) (id : ℕ) (v w : List Tally)
    → get_elem? views id ≡ some v
    → total f (all_of (slice_set views id w)) +ℤ total f v ≡ total f (all_of views) +ℤ total f w
total-set f views id v w at =
    let there = apart (λ ts. ts) views id v at in
    omega (
      arith,
      ints,
      total-permutation f (all_of views) (v ++ there.rest) there.is,
      total-permutation f (all_of (slice_set views id w)) (w ++ there.rest) (there.after w),
      total-append f v there.rest,
      total-append f w there.rest,
    )

-- and of how many tallies there are
pub length-all_set :
    (views : List (List Tally)) (id : ℕ) (v w : List Tally) → get_elem? views id ≡ some v
    → length (all_of (slice_set views id w)) + length v ≡ length (all_of views) + length w
length-all_set views id v w at =
    let there = apart (λ ts. ts) views id v at in
    omega (
      arith,
      length_permutation (all_of views) (v ++ there.rest) there.is,
      length_permutation (all_of (slice_set views id w)) (w ++ there.rest) (there.after w),
      length-append v there.rest,
      length-append w there.rest,
    )

-- ---- modulo 2^64

pub signed-wrapped : (z : ℤ) → cast_signed w64 (wrapped z) ≡ int_wrap w64 z
unfolding int_wrap
signed-wrapped z = refl

pub wrapped-lt : (z : ℤ) → wrapped z < 2 ^ 64
wrapped-lt (pos n) = mod-lt n (omega arith)
wrapped-lt (negsuc n) = omega arith

-- a word is the one that is left of a sum, where it reads so
pub wrapped-by : (n : ℕ) (z : ℤ) → n < 2 ^ 64 → cast_signed w64 n ≡ int_wrap w64 z → n ≡ wrapped z
wrapped-by n z fits e = sym (of_z-to_z w64 n fits)
    ∙ ap (cast_unsigned w64) (e ∙ sym (signed-wrapped z)) ∙ of_z-to_z w64 (wrapped z) (wrapped-lt z)

-- to add to a word, and to the sum that it stands for
pub wrapped-add :
    (z : ℤ) (k : ℕ) → k < 2 ^ 64 → (wrapped z + k) % 2 ^ 64 ≡ wrapped (z +ℤ cast_signed w64 k)
wrapped-add z k fits =
    wrapped-by ((wrapped z + k) % 2 ^ 64) (z +ℤ cast_signed w64 k)
    (mod-lt (wrapped z + k) (omega arith))
    (wrapping_add-bits w64 (wrapped z) k (wrapped-lt z) fits
    ∙ ap (λ y. int_wrap w64 (y +ℤ cast_signed w64 k)) (signed-wrapped z)
    ∙ int_wrap-add_left w64 z (cast_signed w64 k))

-- to add two words, and the sums that they stand for
pub wrapped-sum : (a b : ℤ) → (wrapped a + wrapped b) % 2 ^ 64 ≡ wrapped (a +ℤ b)
wrapped-sum a b =
    wrapped-by ((wrapped a + wrapped b) % 2 ^ 64) (a +ℤ b)
    (mod-lt (wrapped a + wrapped b) (omega arith))
    (wrapping_add-bits w64 (wrapped a) (wrapped b) (wrapped-lt a) (wrapped-lt b)
    ∙ (λ i. int_wrap w64 (signed-wrapped a i +ℤ signed-wrapped b i))
    ∙ int_wrap-add_left w64 a (int_wrap w64 b) ∙ int_wrap-add_right w64 a b)

-- ---- stripes

-- the sum over the first n stripes of what they serve
abbrev pub over_stripes : ℕ → ℕ → List Tally → ℤ
over_stripes stripes zero ts = pos 0
over_stripes stripes (suc n) ts = over_stripes stripes n ts +ℤ total (served stripes (SPREAD * n))
    ts

-- of a seat that the first n stripes don't serve, they have nothing
not_served :
    (stripes n : ℕ) (t : Tally) (ts : List Tally) → n ≤ t.number % stripes
    → over_stripes stripes n (t ∷ ts) ≡ over_stripes stripes n ts
not_served stripes zero t ts past = refl
not_served stripes (suc n) t ts past =
    let other : served stripes (SPREAD * n) t ≡ pos 0 =
    ap (λ b. cond b t.added (pos 0)) (ne_eqb (stripe_of stripes t.number) (SPREAD * n)
    (λ same. absurd (omega arith))) in
    omega (arith, ints, not_served stripes n t ts (omega arith))

-- one of the first n stripes serves the seat
is_served :
    (stripes n : ℕ) (t : Tally) (ts : List Tally) → t.number % stripes < n
    → over_stripes stripes n (t ∷ ts) ≡ t.added +ℤ over_stripes stripes n ts
is_served stripes zero t ts below = absurd (omega arith)
is_served stripes (suc n) t ts below =
    elim (cases_lt (t.number % stripes) n) [
      | inl lower ↦
          let other : served stripes (SPREAD * n) t ≡ pos 0 =
          ap (λ b. cond b t.added (pos 0))
          (ne_eqb (stripe_of stripes t.number) (SPREAD * n) (λ same. absurd (omega arith))) in
          omega (arith, ints, is_served stripes n t ts lower)
      | inr here ↦
          let own : served stripes (SPREAD * n) t ≡ t.added =
          ap (λ b. cond b t.added (pos 0))
          (eq-eqb (stripe_of stripes t.number) (SPREAD * n) (omega arith)) in
          omega (arith, ints, not_served stripes n t ts here)
    ]

none_served : (stripes n : ℕ) → over_stripes stripes n [] ≡ pos 0
none_served stripes zero = refl
none_served stripes (suc n) = omega (arith, ints, none_served stripes n)

-- all stripes together have what all seats have added
pub all_served :
    (stripes : ℕ) (ts : List Tally) → 1 ≤ stripes
    → over_stripes stripes stripes ts ≡ total (λ t. t.added) ts
all_served stripes [] positive = none_served stripes stripes
all_served stripes (t ∷ ts) positive = is_served stripes stripes t ts (mod-lt t.number positive)
    ∙ ap (λ z. t.added +ℤ z) (all_served stripes ts positive)
