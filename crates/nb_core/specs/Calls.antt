-- Which calls leave their key alone, which put a number at an absent key, and which are refused for
-- their sum.
use Rattle.std.specs.Prelude.{◌≡◌, ℕ, ◌==◌, ◌||◌, Bool, true, false, not, if◌then◌else◌, nat_lt, Option, Some, None}
use Rattle.std.specs.Option.{option_eq}
use Rattle.std.specs.FinMap.{get}
use Rattle.nb_core.specs.Log.{Numbers, changed, holds_of}
use Rattle.nb_core.specs.declared.numbers.TheConstants.{VALUE_MAX}
use Rattle.nb_core.specs.declared.calls.Call.{Call}
use Rattle.nb_core.specs.declared.calls.Call.TheVariants.{Get, Write}

-- whether both are the same number, or both none
abbrev pub same_number : Option ℕ → Option ℕ → Bool
same_number = option_eq (λ m n. m == n)

-- the call leaves this number, or none, at its key: it only asks, or its condition doesn't hold, or
-- it would put the same
abbrev pub leaves_alone : Call → Option ℕ → Bool
leaves_alone (Get k) before = true
leaves_alone (Write k want change) before =
    not (holds_of want before) || same_number (changed change before) before

-- the call puts a number at a key that is absent
abbrev pub Fills : Call → Type 0
Fills call = leaves_alone call None ≡ false

-- the change would put a number past the greatest one
abbrev pub is_past_max : Option ℕ → Bool
is_past_max None = false
is_past_max (Some n) = nat_lt VALUE_MAX n

-- The call would act, and would put more than the greatest number: it is refused.
abbrev pub overflows : Call → Numbers → Bool
overflows (Get k) m = false
overflows (Write k want change) m =
    if holds_of want (get m k) then is_past_max (changed change (get m k)) else false
