-- Exponents that rise by one from table to table, as those of tables that double.
use Rattle.std.proofs.Common.{◌≡◌, ◌∙◌, ℕ, ◌+◌, ◌<◌, ◌≤◌, List, [], ◌∷◌, ◌++◌, length, get_or, suc, zero, ap, refl, set, sym, take, arith, add-one, add-zero}
use Rattle.std.specs.List.{All}
use Rattle.std.specs.List.Sorted.{IsNonDecreasing}
use Rattle.std.proofs.lemmas.List.{take_more_set}
use Rattle.nb_core.specs.Plans.{rising}

length-rising : (first count : ℕ) → length (rising first count) ≡ count
length-rising first zero = refl
length-rising first (suc n) = ap suc (length-rising (suc first) n)

get_or-rising : (first count k d : ℕ) → k < count → get_or (rising first count) k d ≡ first + k
get_or-rising first zero k d h = absurd (omega arith)
get_or-rising first (suc n) zero d h = omega arith
get_or-rising first (suc n) (suc k) d h =
    omega (arith, get_or-rising (suc first) n k d (omega arith))

rising-suc :
    (first count : ℕ) → rising first (suc count) ≡ rising first count ++ (first + count) ∷ []
rising-suc first zero = rw add-zero refl
rising-suc first (suc n) =
    let last : suc first + n ≡ first + suc n = omega arith in
    ap (λ (es : List ℕ). first ∷ es) (rising-suc (suc first) n
    ∙ ap (λ (m : ℕ). rising (suc first) n ++ m ∷ []) last)

-- one more exponent, written behind those that are there
pub take-rising_more :
    (es : List ℕ) (first count : ℕ) → count < length es → take count es ≡ rising first count
    → take (count + 1) (set es count (first + count)) ≡ rising first (count + 1)
take-rising_more es first count within h =
    take_more_set es count (first + count) within
    ∙ ap (λ (fs : List ℕ). fs ++ (first + count) ∷ []) h
    ∙ sym (ap (rising first) (add-one count) ∙ rising-suc first count)

pub All-rising :
    (first count : ℕ) → 2 ≤ first → first + count ≤ 20
    → All (λ e. (2 ≤ e) × (e ≤ 19)) (rising first count)
All-rising first count low high k d within =
    let inside : k < count = omega (arith, length-rising first count) in
    let at = get_or-rising first count k d inside in (omega arith, omega arith)

pub IsNonDecreasing-rising : (first count : ℕ) → IsNonDecreasing (rising first count)
IsNonDecreasing-rising first count i j d below within =
    let size = length-rising first count in
    omega (
      arith,
      get_or-rising first count i d (omega arith),
      get_or-rising first count j d (omega arith),
    )
