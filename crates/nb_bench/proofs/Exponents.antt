-- What the logarithm of a number of slots says of the smallest table that has them.
use Rattle.std.proofs.Common.{◌≡◌, ◌∙◌, ℕ, suc, ◌+◌, ◌*◌, ◌-◌, ◌^◌, ◌<◌, ◌≤◌, max, ap, arith}
use Rattle.std.proofs.Math.Nat.{pow-suc}
use Rattle.std.proofs.Math.Pow.{pow_mono}

-- the table past it has two slots for each key
pub has-room :
    (keys slots low : ℕ) → slots ≡ max (2 * keys) 4 → slots - 1 < 2 * 2 ^ low
    → 2 * keys ≤ 2 ^ (low + 1)
has-room keys slots low is over =
    let doubles : 2 ^ (low + 1) ≡ 2 ^ low * 2 =
    ap (λ n. 2 ^ n) (let next : low + 1 ≡ suc low = omega arith in next) ∙ pow-suc 2 low in
    omega (arith, over, is, doubles)

-- its own table has fewer, and so has each one before it, where it has four slots or more
pub lacks-room :
    (keys slots low e : ℕ) → slots ≡ max (2 * keys) 4 → 2 ^ low ≤ slots - 1 → 2 ≤ e → e ≤ low
    → 2 ^ e < 2 * keys
lacks-room keys slots low e is under some below =
    let four : 2 ^ 2 ≤ 2 ^ e = pow_mono some in
    let fewer : 2 ^ e ≤ 2 ^ low = pow_mono below in
    omega (arith, under, is, four, fewer)
