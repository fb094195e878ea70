-- The number that a text writes in decimal digits.
use Rattle.std.specs.Prelude.{ℕ, Bool, ◌&&◌, ◌^◌, nat_lt, if◌then◌else◌, List, length, Option, Some, None, Result, Ok, Err}
use Rattle.std.specs.Str.{all_ascii_digits}
use Rattle.std.specs.Str.Parse.{digits_value}
use Rattle.nb_core.specs.declared.digits.DigitsFault.{DigitsFault}
use Rattle.nb_core.specs.declared.digits.DigitsFault.TheVariants.{NotANumber, TooLarge}

-- whether the text is one digit or more, and nothing else
abbrev pub are_digits : List ℕ → Bool
are_digits text = nat_lt 0 (length text) && all_ascii_digits text

-- the number that a text spells in base ten, in digits alone
abbrev pub number_spelled : List ℕ → Option ℕ
number_spelled text = if are_digits text then Some (digits_value 10 text) else None

-- the number as one of 64 bits
abbrev pub in_64_bits : Option ℕ → Result ℕ DigitsFault
in_64_bits None = Err NotANumber
in_64_bits (Some n) = if nat_lt n (2 ^ 64) then Ok n else Err TooLarge

-- the number of 64 bits that a text spells, or why there is none
abbrev pub number_read : List ℕ → Result ℕ DigitsFault
number_read text = in_64_bits (number_spelled text)
