-- Mixing of numbers below 2 ^ 64, for keys that share their low bits.
use Rattle.std.specs.Prelude.{ℕ, ◌*◌, ◌%◌, ◌^◌}
use Rattle.std.specs.Int.{swap_bytes, w64}
use Rattle.nb_core.specs.declared.mixing.TheConstants.{FACTOR, INVERSE}

-- one round: times the factor, and then the eight bytes in the other order
abbrev pub stirred : ℕ → ℕ
stirred n = swap_bytes w64 (n * FACTOR % 2 ^ 64)

-- a round back
abbrev pub unstirred : ℕ → ℕ
unstirred n = swap_bytes w64 n * INVERSE % 2 ^ 64

-- what a number is mixed to: two rounds
abbrev pub mixed : ℕ → ℕ
mixed n = stirred (stirred n)

-- what a mixed number was
abbrev pub unmixed : ℕ → ℕ
unmixed n = unstirred (unstirred n)
