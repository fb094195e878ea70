-- The number in the middle of sorted ones.
use Rattle.std.proofs.Common.{◌≡◌, ◌+◌, ◌/◌, ◌<◌, ◌≤◌, ℕ, Bool, false, cond, List, [], ◌∷◌, All, ap, arith, drop, get_or, inl, inr, length, length-drop, refl, take}
use Rattle.std.specs.List.Sorted.{IsNonDecreasing, IsPermutation, IsSorted}
use Rattle.std.specs.Ordering.{nat_cmp}
use Rattle.std.specs.Prelude.{count_by, nat_lt}
use Rattle.std.proofs.lemmas.Bool.{le-ltb}
use Rattle.std.proofs.lemmas.List.{get_or-drop, get_or-take, length-take, nil_from_length}
use Rattle.std.proofs.lemmas.List.Elements.{All-from_get_or, All-head, All-tail, Contains-get_or}
use Rattle.std.proofs.lemmas.List.Sorted.{Contains-permutation, IsNonDecreasingBy-from_sort, IsPermutation-sym, length_permutation, sum_by-IsPermutation}
use Rattle.std.proofs.lemmas.List.Sums.{count_by-le-length, sum_by-cons, sum_by-take-drop}
use Rattle.nb_texts.specs.Forgetting.{IsMiddle}

-- where none passes
count-none : (p : ℕ → Bool) (xs : List ℕ) → All (λ x. p x ≡ false) xs → count_by p xs ≡ 0
count-none p [] all = refl
count-none p (x ∷ xs) all =
    let none = ap {B = ℕ} (λ b. cond b 1 0) (All-head (λ x. p x ≡ false) x xs all) in
    let rest = count-none p xs (All-tail (λ x. p x ≡ false) x xs all) in
    omega (arith, none, rest, sum_by-cons (λ x. cond (p x) 1 0) x xs)

module _ (sorted : List ℕ) (i : ℕ) (less : i < length sorted) (rising : IsNonDecreasing sorted) where
  -- those up to the place are no more, and those from it on no less
  few-above : count_by (λ count. nat_lt (get_or sorted i 0) count) sorted + i + 1 ≤ length sorted
  few-above =
      let middle = get_or sorted i 0 in
      let p : ℕ → Bool = λ count. nat_lt middle count in
      let front = take (i + 1) sorted in
      let none : count_by p front ≡ 0
      = count-none p front (All-from_get_or (λ x. p x ≡ false) front 0 (λ k within.
      let short : k < i + 1 = omega (arith, within, length-take (i + 1) sorted) in
      let same = get_or-take (i + 1) sorted k 0 short in
      le-ltb middle (get_or front k 0) (omega (arith, same, rising k i 0 (omega (arith, short)) less)))) in
      omega (
        arith,
        none,
        sum_by-take-drop (λ count. cond (p count) 1 0) sorted (i + 1),
        count_by-le-length p (drop (i + 1) sorted),
        length-drop (i + 1) sorted,
        less,
      )

  few-below : count_by (λ count. nat_lt count (get_or sorted i 0)) sorted ≤ i
  few-below =
      let middle = get_or sorted i 0 in
      let p : ℕ → Bool = λ count. nat_lt count middle in
      let back = drop i sorted in
      let none : count_by p back ≡ 0
      = count-none p back (All-from_get_or (λ x. p x ≡ false) back 0 (λ k within.
      let short : i + k < length sorted = omega (arith, within, length-drop i sorted) in
      let same = get_or-drop i sorted k 0 in
      le-ltb (get_or back k 0) middle (omega (arith, same, rising i (i + k) 0 (omega arith) short)))) in
      omega (
        arith,
        none,
        sum_by-take-drop (λ count. cond (p count) 1 0) sorted i,
        count_by-le-length p (take i sorted),
        length-take i sorted,
        less,
      )

pub middle-of :
    (counts sorted : List ℕ) (i : ℕ) → IsPermutation counts sorted → IsSorted nat_cmp sorted
    → i ≡ length sorted / 2 → 0 < length sorted → IsMiddle counts (get_or sorted i 0)
middle-of counts sorted i same is at some =
    let middle = get_or sorted i 0 in
    let rising : IsNonDecreasing sorted = IsNonDecreasingBy-from_sort (λ x. x) sorted is in
    let less : i < length sorted = omega (arith, at, some) in
    let many = length_permutation counts sorted same in
    record {
      one =
          inl (Contains-permutation sorted counts middle (IsPermutation-sym counts sorted same)
          (Contains-get_or sorted i 0 less));
      above =
          omega (
            arith,
            few-above sorted i less rising,
            sum_by-IsPermutation (λ count. cond (nat_lt middle count) 1 0) counts sorted same,
            many,
            at,
          );
      below =
          omega (
            arith,
            few-below sorted i less rising,
            sum_by-IsPermutation (λ count. cond (nat_lt count middle) 1 0) counts sorted same,
            many,
            at,
          );
    }

pub middle-none : (counts sorted : List ℕ) → IsPermutation counts sorted → length sorted ≡ 0 → IsMiddle counts 0
middle-none counts sorted same none =
    let many = length_permutation counts sorted same in
    record {
      one = inr (nil_from_length counts (omega (arith, many, none)), refl);
      above = omega (arith, count_by-le-length (λ count. nat_lt 0 count) counts, many, none);
      below = omega (arith, count_by-le-length (λ count. nat_lt count 0) counts, many, none);
    }
