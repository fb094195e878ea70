-- The slots of a path are distinct.
use Rattle.std.proofs.Common.{◌≡◌, ◌∙◌, ◌⊎◌, slice_index, ℕ, ◌+◌, ◌-◌, ◌*◌, ◌/◌, ◌%◌, ◌≤◌, ◌<◌, ap, sym, inl, inr, arith}
use Rattle.std.proofs.Math.Nat.{add-mul-mod_self_left, mod-add-div, mod-eq-sub-mod, mod-eq_of_lt, mod-lt}
use Rattle.std.proofs.lemmas.Nat.{pow_pos}
use Rattle.nb_core.specs.Laws.{PathsAreDistinct}
use Rattle.nb_core.specs.Plans.{size_of}

-- a step of less than a whole round leads to another place
moved-on : (m a s : ℕ) → 0 < m → 0 < s → s < m → (a + s) % m ≡ a % m → ⊥
moved-on m a s some ahead near same =
    let x = a % m in
    let below : x < m = mod-lt a some in
    let parts = mod-add-div a m in
    let at : (a + s) % m ≡ (x + s) % m
    = ap (λ n. n % m) (let split : a + s ≡ x + s + m * (a / m) = omega (arith, parts) in split)
    ∙ add-mul-mod_self_left (x + s) m (a / m) in
    elim (near-or-round (x + s)) [
      | inl inside ↦ let is = mod-eq_of_lt inside in omega (arith, is, at, same, ahead)
      | inr round ↦
          let is : (x + s) % m ≡ x + s - m = mod-eq-sub-mod round
          ∙ mod-eq_of_lt (omega (arith, below, near)) in
          omega (arith, is, at, same, near, round)
    ]
  where
    near-or-round : (n : ℕ) → (n < m) ⊎ (m ≤ n)
    near-or-round n = grind arith

-- two places of a round are the same only at the same distance
one-distance : (m k d e : ℕ) → 0 < m → d < m → e < m → (k + d) % m ≡ (k + e) % m → d ≡ e
one-distance m k d e some near near' same = elim (which d e) [
  | inl less ↦
      absurd
      (moved-on m (k + d) (e - d) some (omega (arith, less)) (omega (arith, near'))
      (ap (λ n. n % m) (let sum : k + d + (e - d) ≡ k + e = omega (arith, less) in sum) ∙ sym same))
  | inr other ↦ elim other [
    | inl same_d ↦ same_d
    | inr more ↦
        absurd
        (moved-on m (k + e) (d - e) some (omega (arith, more)) (omega (arith, near))
        (ap (λ n. n % m) (let sum : k + e + (d - e) ≡ k + d = omega (arith, more) in sum) ∙ same))
  ]
]
  where
    which : (a b : ℕ) → (a < b) ⊎ ((a ≡ b) ⊎ (b < a))
    which a b = grind arith

pub paths_are_distinct : PathsAreDistinct
paths_are_distinct p g k d e near near' same =
    one-distance (size_of p g) k d e (pow_pos (slice_index p.exponents g)) near near' same
