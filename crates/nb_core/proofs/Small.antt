-- Small exponents, such as those of shapes that were made without large tables.
use Rattle.std.proofs.Common.{ℕ, ◌^◌, ◌≤◌, List, length, get_or, arith}
use Rattle.std.specs.List.{All}
use Rattle.std.proofs.Math.Pow.{pow_mono}
use Rattle.std.proofs.lemmas.List.Sums.{sum_by-le}
use Rattle.nb_core.specs.Plans.{slots_in}

-- they are such as any shape may have
pub small-sizes :
    (exponents : List ℕ) → All (λ e. (2 ≤ e) × (e ≤ 19)) exponents
    → All (λ e. (2 ≤ e) × (e ≤ 28)) exponents
small-sizes exponents small k d within =
    let bounds = small k d within in (bounds.0, omega (arith, bounds.1))

-- and so few tables have few slots
pub small-slots :
    (exponents : List ℕ) → All (λ e. (2 ≤ e) × (e ≤ 19)) exponents → length exponents ≤ 16
    → slots_in exponents ≤ 2 ^ 30
small-slots exponents small few =
    let each : All (λ e. 2 ^ e ≤ 524288) exponents = (λ k d within.
    let most : 2 ^ get_or exponents k d ≤ 2 ^ 19 = pow_mono (small k d within).1 in
    omega arith) in
    omega (arith, sum_by-le (λ e. 2 ^ e) 524288 exponents each)
