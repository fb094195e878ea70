-- A slot's number by a mask.
use Rattle.std.proofs.Common.{◌≡◌, ◌∙◌, ℕ, ◌+◌, ◌-◌, ◌*◌, ◌%◌, ◌^◌, ◌≤◌, ap, sym, subst, bit_and, slice_index, inl, inr, arith}
use Rattle.std.specs.Int.{◌∣◌}
use Rattle.std.proofs.Math.Nat.{dvd-mul_right, mod-mod_of_dvd}
use Rattle.std.proofs.lemmas.Nat.{and_mask, pow-add}
use Rattle.std.proofs.Math.Pow.{pow_mono}
use Rattle.std.proofs.lemmas.Bool.{cases_lt}
use Rattle.nb_core.specs.Plans.{Plan, size_of}

-- a word's low bits are its rest by the size of a table
pub masked :
    (p : Plan) (g n : ℕ) → size_of p g ≤ 2 ^ 28
    → bit_and (n % 2 ^ 64) (size_of p g - 1) ≡ n % size_of p g
masked p g n few =
    let e = slice_index p.exponents g in
    let most : e ≤ 64 = elim (cases_lt 64 e) [
      | inl above ↦ absurd (let more : 2 ^ 64 ≤ 2 ^ e =
          pow_mono {i = 64} {j = e} (omega (arith, above)) in omega (arith, more, few))
      | inr below ↦ below
    ] in
    let whole : 2 ^ e * 2 ^ (64 - e) ≡ 2 ^ 64 =
    sym (pow-add 2 e (64 - e)) ∙ ap (λ k. 2 ^ k) (let sum : e + (64 - e) ≡ 64 =
    omega (arith, most) in sum) in
    let divides : 2 ^ e ∣ 2 ^ 64 = subst (λ m. 2 ^ e ∣ m) whole
    (dvd-mul_right (2 ^ e) (2 ^ (64 - e))) in
    and_mask (n % 2 ^ 64) e ∙ mod-mod_of_dvd (2 ^ e) n divides
