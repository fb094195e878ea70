-- The tests that numbers pass before they make a shape.
use Rattle.std.proofs.Common.{Result, ◌≡◌, ℕ, ◌+◌, ◌<◌, ◌≤◌, Bool, true, false, MatchBool, List, [], ◌∷◌, length, get_or, leb, suc, zero, refl, subst, arith, add-one, Ok, Err}
use Rattle.std.specs.List.{All, list_all}
use Rattle.std.specs.List.Sorted.{IsNonDecreasing}
use Rattle.std.proofs.lemmas.Bool.{and_from, and_left, and_right, le-leb, lt-leb}
use Rattle.std.proofs.lemmas.Bool.Decides.{nat_tests}
use Rattle.std.proofs.lemmas.List.Sorted.{IsNonDecreasingBy-drop}
use Rattle.std.proofs.lemmas.List.Sums.{list_all-from_AllPass}
use Rattle.nb_core.specs.declared.shapes.ShapeFault.TheVariants as fault
use Rattle.nb_core.specs.declared.shapes.ShapeFault.{ShapeFault}
use Rattle.nb_core.specs.Plans.{Plan, checked_exponents, is_within, never_falls, plan, seated}

pub is_within-true : (low high n : ℕ) → (low ≤ n) × (n ≤ high) → is_within low high n ≡ true
is_within-true low high n h = grind (arith, nat_tests)

-- seats and stripes of a plan are not refused
pub seated-plan :
    (exponents : List ℕ) (seats stripes : ℕ) → (1 ≤ seats) × (seats ≤ 8)
    → (1 ≤ stripes) × (stripes ≤ 8)
    → seated exponents seats stripes ≡ Ok (plan exponents seats stripes)
seated-plan exponents seats stripes some striped =
    rw (is_within-true 1 8 seats some, is_within-true 1 8 stripes striped)

never_falls-true : (es : List ℕ) → IsNonDecreasing es → never_falls es ≡ true
never_falls-true [] h = refl
never_falls-true (e ∷ []) h = refl
never_falls-true (e ∷ f ∷ es) h =
    and_from (leb e f) (never_falls (f ∷ es)) (le-leb e f (h 0 1 0 (omega arith) (omega arith)))
    (never_falls-true (f ∷ es) (IsNonDecreasingBy-drop (λ n. n) 1 (e ∷ f ∷ es) h))

never_falls-false :
    (es : List ℕ) (k : ℕ) → suc k < length es → get_or es (suc k) 0 < get_or es k 0
    → never_falls es ≡ false
never_falls-false [] k within falls = absurd (omega arith)
never_falls-false (e ∷ []) k within falls = absurd (omega arith)
never_falls-false (e ∷ f ∷ es) zero within falls =
    and_left (leb e f) (never_falls (f ∷ es)) (lt-leb e f falls)
never_falls-false (e ∷ f ∷ es) (suc k) within falls =
    and_right (leb e f) (never_falls (f ∷ es)) (never_falls-false (f ∷ es) k (omega arith) falls)

-- a test of the exponents, by what `is_sorted` says of them
pub never_falls-is :
    (es : List ℕ) (r : Bool) → MatchBool r (IsNonDecreasing es)
    ((k : ℕ) × (k + 1 < length es) × ((d : ℕ) → get_or es (k + 1) d < get_or es k d))
    → never_falls es ≡ r
never_falls-is es true h = never_falls-true es h
never_falls-is es false h =
    never_falls-false es h.0 (omega (arith, h.1))
    (subst (λ n. get_or es n 0 < get_or es h.0 0) (add-one h.0) (h.2 0))

list_all-is_within :
    (most : ℕ) (es : List ℕ) → All (λ e. (2 ≤ e) × (e ≤ most)) es
    → list_all (is_within 2 most) es ≡ true
list_all-is_within most es sizes =
    list_all-from_AllPass (is_within 2 most) es
    (λ k d within. is_within-true 2 most (get_or es k d) (sizes k d within))

-- with so many exponents of these sizes, only a fall is left to refuse
module _ (largest : ℕ) (es : List ℕ) (passed : Result Plan ShapeFault)
    (few : (1 ≤ length es) × (length es ≤ 16))
    (sizes : All (λ e. (2 ≤ e) × (e ≤ largest)) es) where
  pub checked_exponents-falls :
      never_falls es ≡ false → checked_exponents largest es passed ≡ Err fault.Plan
  checked_exponents-falls falls =
      rw (is_within-true 1 16 (length es) few, list_all-is_within largest es sizes, falls)

  pub checked_exponents-rises :
      never_falls es ≡ true → checked_exponents largest es passed ≡ passed
  checked_exponents-rises rises =
      rw (is_within-true 1 16 (length es) few, list_all-is_within largest es sizes, rises)
