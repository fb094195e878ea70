-- Exponents, seats and stripes that pass the checks make a plan that a shape may be.
use Rattle.std.proofs.Common.{◌≡◌, ℕ, ◌*◌, ◌^◌, ◌≤◌, Bool, true, false, not, cond, leb, List, [], ◌∷◌, length, get_or, zero, suc, refl, Result, Ok, Err, arith}
use Rattle.std.specs.List.{All, list_all}
use Rattle.std.specs.List.Sorted.{IsNonDecreasing}
use Rattle.std.proofs.lemmas.Bool.{and_parts, leb-true}
use Rattle.std.proofs.lemmas.List.Sums.{AllPass-from_list_all, sum_by-le}
use Rattle.std.proofs.Math.Pow.{pow_mono}
use Rattle.nb_core.specs.declared.shapes.ShapeFault.{ShapeFault}
use Rattle.nb_core.specs.Plans.{Plan, IsPlan, checked_plan, is_within, never_falls, plan, slots_in}

-- what isn't refused passed the test, and goes on
not_refused :
    (test : Bool) (fault : ShapeFault) (rest : Result Plan ShapeFault) (p : Plan)
    → cond (not test) (Err fault) rest ≡ Ok p
    → (test ≡ true) × (rest ≡ Ok p)
not_refused true fault rest p accepted = (refl, accepted)
not_refused false fault rest p accepted = absurd cc

-- a number that passes the test of two bounds is between them
is_within-true : (low high n : ℕ) → is_within low high n ≡ true → (low ≤ n) × (n ≤ high)
is_within-true low high n holds =
    let parts = and_parts (leb low n) (leb n high) holds in
    (leb-true low n parts.0, leb-true n high parts.1)

-- exponents that pass the test never fall
never_falls-true : (es : List ℕ) → never_falls es ≡ true → IsNonDecreasing es
never_falls-true [] holds i j d order within = absurd (omega arith)
never_falls-true (e ∷ []) holds zero zero d order within = omega arith
never_falls-true (e ∷ []) holds zero (suc j) d order within = absurd (omega arith)
never_falls-true (e ∷ []) holds (suc i) j d order within = absurd (omega arith)
never_falls-true (e ∷ f ∷ es) holds zero zero d order within = omega arith
never_falls-true (e ∷ f ∷ es) holds (suc i) zero d order within = absurd (omega arith)
never_falls-true (e ∷ f ∷ es) holds zero (suc j) d order within =
    let parts = and_parts (leb e f) (never_falls (f ∷ es)) holds in
    omega (
      arith,
      leb-true e f parts.0,
      never_falls-true (f ∷ es) parts.1 0 j d (omega arith)
          (omega arith),
    )
never_falls-true (e ∷ f ∷ es) holds (suc i) (suc j) d order within =
    never_falls-true (f ∷ es) (and_parts (leb e f) (never_falls (f ∷ es)) holds).1 i j d (omega arith)
    (omega arith)

-- so few exponents, each so small, have few slots
few-slots :
    (exponents : List ℕ) → All (λ e. (2 ≤ e) × (e ≤ 19)) exponents → length exponents ≤ 16
    → slots_in exponents ≤ 2 ^ 30
few-slots exponents small few =
    let each : All (λ e. 2 ^ e ≤ 524288) exponents = (λ k d within.
    let most : 2 ^ get_or exponents k d ≤ 2 ^ 19 = pow_mono (small k d within).1 in
    omega arith) in
    omega (arith, sum_by-le (λ e. 2 ^ e) 524288 exponents each)

-- exponents, seats and stripes that pass the checks make a plan that a shape may be
pub accepted-plan :
    (exponents : List ℕ) (seats stripes : ℕ)
    → checked_plan exponents seats stripes ≡ Ok (plan exponents seats stripes)
    → IsPlan (plan exponents seats stripes)
accepted-plan exponents seats stripes accepted =
    let p = plan exponents seats stripes in
    let tables = not_refused (is_within 1 16 (length exponents)) _ _ p accepted in
    let sizes = not_refused (list_all (is_within 2 19) exponents) _ _ p tables.1 in
    let rising = not_refused (never_falls exponents) _ _ p sizes.1 in
    let seated = not_refused (is_within 1 8 seats) _ _ p rising.1 in
    let striped = not_refused (is_within 1 8 stripes) _ _ p seated.1 in
    let few = is_within-true 1 16 (length exponents) tables.0 in
    let small : All (λ e. (2 ≤ e) × (e ≤ 19)) exponents = (λ k d within.
    is_within-true 2 19 (get_or exponents k d)
    (AllPass-from_list_all (is_within 2 19) exponents sizes.0 k d within)) in
    let few_seats = is_within-true 1 8 seats seated.0 in
    let few_stripes = is_within-true 1 8 stripes striped.0 in
    record {
      tables = few;
      sizes = λ k d within. let of = small k d within in (of.0, omega (arith, of.1));
      never_fall = never_falls-true exponents rising.0;
      slots = few-slots exponents small few.1;
      seats = (few_seats.0, omega (arith, few_seats.1));
      stripes = (few_stripes.0, omega (arith, few_stripes.1));
      reprobes = (omega arith, omega arith);
      chunk = (3, omega arith, omega arith, refl);
    }
