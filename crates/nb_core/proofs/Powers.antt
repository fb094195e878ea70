-- Powers of two: which is the smaller, their lowest digit, and what has a single digit.
use Rattle.std.proofs.Common.{◌≡◌, ◌∙◌, ℕ, zero, suc, ◌/◌, ◌%◌, ◌^◌, ◌<◌, ◌≤◌, ◌⊎◌, inl, inr, min, ap, sym, arith, w64}
use lib.Count.{ones, ones_step, ones-le}
use Rattle.std.specs.Int.{trailing_zeros}
use Rattle.std.proofs.Math.Nat.{min-eq_left, min-eq_right}
use Rattle.std.proofs.Math.Pow.{pow-lt, pow_mono}
use Rattle.std.proofs.lemmas.Bool.{cases_lt, cases_order}
use Rattle.std.proofs.lemmas.Nat.{pow_pos}
use Rattle.nb_core.specs.Plans.{IsChunk}
use Rattle.std.proofs.lemmas.Nat.Bits.{bit_at-pow_other, bit_at-pow_same, bit_at-trailing_zeros}

pub smaller-power : (e c : ℕ) → 2 ^ min e c ≡ min (2 ^ e) (2 ^ c)
smaller-power e c = cases (cases_lt e c) where
  cases : (e < c) ⊎ (c ≤ e) → 2 ^ min e c ≡ min (2 ^ e) (2 ^ c)
  cases (inl less) = ap (λ n. 2 ^ n) (min-eq_left (omega (arith, less)))
      ∙ sym (min-eq_left (pow_mono (omega (arith, less))))
  cases (inr more) = ap (λ n. 2 ^ n) (min-eq_right more) ∙ sym (min-eq_right (pow_mono more))

-- the lowest digit of a power is its only one
pub trailing-power : (e : ℕ) → e < 64 → trailing_zeros w64 (2 ^ e) ≡ e
trailing-power e few =
    let lowest = bit_at-trailing_zeros w64 (2 ^ e) (pow_pos e) (pow-lt few) in
    elim (cases_order (trailing_zeros w64 (2 ^ e)) e) [
      | inl same ↦ same
      | inr (inl less) ↦
          absurd (let none = bit_at-pow_other e (trailing_zeros w64 (2 ^ e))
          (λ is. omega (arith, less, is)) in
          omega (arith, lowest.1, none))
      | inr (inr more) ↦
          absurd (let none = lowest.2 e more in let some = bit_at-pow_same e in
          omega (arith, none, some))
    ]

-- a number without digits is zero
no-digits : (k n : ℕ) → n < 2 ^ k → ones n ≡ 0 → n ≡ 0
no-digits zero n below none = omega arith
no-digits (suc k) n below none =
    let parts = ones_step n in
    let half : n / 2 ≡ 0 = no-digits k (n / 2) (omega arith) (omega (arith, parts, none)) in
    omega (arith, parts, none, half)

-- a number with one digit is a power
pub power-of-one_digit : (k n : ℕ) → n < 2 ^ k → ones n ≡ 1 → (e : ℕ) × (n ≡ 2 ^ e)
power-of-one_digit zero n below single = absurd (let few = ones-le zero n below in
    omega (arith, few, single))
power-of-one_digit (suc k) n below single =
    let parts = ones_step n in
    elim (cases_lt 0 (n % 2)) [
      | inl odd ↦
          let half : n / 2 ≡ 0 = no-digits k (n / 2) (omega arith)
          (omega (arith, parts, single, odd)) in
          (0, omega (arith, half, odd))
      | inr even ↦
          let half = power-of-one_digit k (n / 2) (omega arith)
          (omega (arith, parts, single, even)) in
          (suc half.0, omega (arith, half.1, even))
    ]

-- a number from 4 to 1024 with one digit is a chunk
pub chunk-of-one_digit : (n : ℕ) → 4 ≤ n → n ≤ 1024 → ones n ≡ 1 → IsChunk n
chunk-of-one_digit n least most single =
    let power = power-of-one_digit 11 n (omega (arith, most)) single in
    (power.0, above power.0 power.1, below power.0 power.1, power.1)
  where
    above : (e : ℕ) → n ≡ 2 ^ e → 2 ≤ e
    above e is = cases (cases_lt e 2) where
      cases : (e < 2) ⊎ (2 ≤ e) → 2 ≤ e
      cases (inl less) = absurd (let low : 2 ^ e < 2 ^ 2 = pow-lt less in
          omega (arith, low, is, least))
      cases (inr more) = more

    below : (e : ℕ) → n ≡ 2 ^ e → e ≤ 10
    below e is = cases (cases_lt 10 e) where
      cases : (10 < e) ⊎ (e ≤ 10) → e ≤ 10
      cases (inl more) = absurd (let high : 2 ^ 10 < 2 ^ e = pow-lt more in
          omega (arith, high, is, most))
      cases (inr less) = less
