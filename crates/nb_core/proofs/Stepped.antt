-- The exponents of a plan for many keys, which rise by one step from table to table.
use Rattle.std.proofs.Common.{◌≡◌, ◌∙◌, ℕ, zero, suc, ◌+◌, ◌-◌, ◌*◌, ◌^◌, ◌<◌, ◌≤◌, List, [], ◌∷◌, length, get_or, take, refl, arith, inl, inr, ap, slice_index, subst, sym}
use Rattle.std.specs.List.{All}
use Rattle.std.specs.List.Sorted.{IsNonDecreasing}
use Rattle.std.proofs.Math.Nat.{pow-suc}
use Rattle.std.proofs.Math.Pow.{pow_mono}
use Rattle.std.proofs.lemmas.Bool.{cases_lt}
use Rattle.std.proofs.lemmas.List.{get_or_append_left, get_or-append_right, get_or-take, length-append, length-take-le, ext_get_or}
use Rattle.std.proofs.lemmas.List.Sums.{sum_by_push}
use Rattle.nb_core.specs.Plans.{slots_in, steps_down, tables_for}
use Rattle.nb_core.proofs.Filled.{IsFilled}
use Rattle.nb_core.specs.declared.shapes.keys.TheConstants.{FIRST_EXPONENT, STEP}

pub length-steps_down : (tables last : ℕ) → length (steps_down tables last) ≡ tables
unfolding steps_down
length-steps_down zero last = refl
length-steps_down (suc tables) last =
    omega (
      arith,
      length-append (steps_down tables (last - STEP)) (last ∷ []),
      length-steps_down tables (last - STEP),
    )

-- each is so many steps below the last one
pub get_or-steps_down :
    (tables last k d : ℕ) → k < tables
    → get_or (steps_down tables last) k d ≡ last - STEP * (tables - 1 - k)
unfolding steps_down
get_or-steps_down zero last k d within = absurd (omega arith)
get_or-steps_down (suc tables) last k d within =
    let below = steps_down tables (last - STEP) in
    let long : length below ≡ tables = length-steps_down tables (last - STEP) in
    elim (cases_lt k tables) [
      | inl less ↦
          omega (
            arith,
            get_or_append_left below (last ∷ []) d k (omega arith),
            get_or-steps_down tables (last - STEP) k d less,
          )
      | inr more ↦
          let at : k - tables ≡ 0 = omega arith in
          omega (
            arith,
            get_or-append_right below (last ∷ []) tables k d long more,
            ap (λ n. get_or (last ∷ []) n d) at,
          )
    ]

-- how far down each is from the last one
abbrev pub step_down : ℕ → ℕ → ℕ → ℕ
step_down tables last k = last - STEP * (tables - 1 - k)

-- an array that was filled with them has them
pub steps_down-filled :
    (last g : ℕ) (xs : List ℕ) → last ≤ 28 → g ≡ tables_for last
    → IsFilled (step_down (tables_for last) last) xs g
    → take (tables_for last) xs ≡ steps_down (tables_for last) last
steps_down-filled last g xs high all filled =
    let tables = tables_for last in
    let h = subst (IsFilled (step_down tables last) xs) all filled in
    let long : length (take tables xs) ≡ tables =
    length-take-le tables xs (omega (arith, h.size)) in
    ext_get_or 0 _ _ (long ∙ sym (length-steps_down tables last)) (λ k below.
    let within : k < tables = omega arith in
    get_or-take tables xs k 0 within ∙ h.filled k within
    ∙ sym (get_or-steps_down tables last k 0 within))

-- the last of them is the last one
pub steps_down-last :
    (tables last : ℕ) → 1 ≤ tables
    → slice_index (steps_down tables last) (length (steps_down tables last) - 1) ≡ last
steps_down-last tables last some =
    let long : length (steps_down tables last) ≡ tables = length-steps_down tables last in
    let at : length (steps_down tables last) - 1 ≡ tables - 1 = omega arith in
    ap (slice_index (steps_down tables last)) at
    ∙ get_or-steps_down tables last (tables - 1) 0 (omega arith) ∙ omega arith

-- where so many steps stay within the exponents that a shape may have
module _ (tables last : ℕ) (low : FIRST_EXPONENT + STEP * (tables - 1) ≤ last) where
  pub steps_down-sizes : last ≤ 28 → All (λ e. (2 ≤ e) × (e ≤ 28)) (steps_down tables last)
  steps_down-sizes high k d within =
      let inside : k < tables = omega (arith, length-steps_down tables last) in
      let at = get_or-steps_down tables last k d inside in (omega arith, omega arith)

  pub steps_down-rises : IsNonDecreasing (steps_down tables last)
  steps_down-rises i j d order within =
      let inside : j < tables = omega (arith, length-steps_down tables last) in
      omega (
        arith,
        get_or-steps_down tables last i d (omega arith),
        get_or-steps_down tables last j d inside,
      )

-- all tables together have fewer slots than twice the last one
pub steps_down-slots :
    (tables last : ℕ) → FIRST_EXPONENT + STEP * (tables - 1) ≤ last
    → slots_in (steps_down tables last) ≤ 2 * 2 ^ last
unfolding steps_down
steps_down-slots zero last low = omega arith
steps_down-slots (suc zero) last low = omega arith
steps_down-slots (suc (suc tables)) last low =
    let less : 2 ^ (last - STEP + 1) ≤ 2 ^ last = pow_mono (omega arith) in
    let twice : 2 ^ (last - STEP + 1) ≡ 2 ^ (last - STEP) * 2 =
    ap (λ n. 2 ^ n) (let next : last - STEP + 1 ≡ suc (last - STEP) = omega arith in next)
    ∙ pow-suc 2 (last - STEP) in
    omega (
      arith,
      sum_by_push (λ e. 2 ^ e) (steps_down (suc tables) (last - STEP)) last,
      steps_down-slots (suc tables) (last - STEP) (omega arith),
    )
