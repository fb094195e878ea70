-- What a write does to what it finds.
use Rattle.std.specs.FinMap as map
use Rattle.std.specs.Prelude.{◌≡◌, ℕ, true, false, Option}
use Rattle.nb_core.specs.Calls.{leaves_alone, overflows}
use Rattle.nb_core.specs.History.{IsExchange, number_in_value, key_of_call}
use Rattle.nb_core.specs.Log.{Numbers, reply_at}
use Rattle.nb_core.specs.Tables.{IsUnprimed}
use Rattle.nb_core.specs.declared.calls.Call.{Call}
use Rattle.nb_core.specs.declared.states.ValueState.{ValueState}
use Rattle.nb_map.specs.declared.steps.slot.Decision.TheVariants as decision
use Rattle.nb_map.specs.declared.steps.slot.Decision.{Decision}

-- The call does this where its key has this number, or none: it leaves that as it is and replies
-- so; or its condition holds and it puts this value in place of any that has this number; or it
-- would put more than the greatest number.
abbrev pub IsDecided : Call → Option ℕ → Decision → Type 0
IsDecided call number (decision.Leave reply) =
    (leaves_alone call number ≡ true) × (reply ≡ reply_at call number)
IsDecided call number (decision.Exchange to) =
    (leaves_alone call number ≡ false) × (reply_at call number
    ≡ record { before = number; matched = true })
    × ((from : ValueState) → IsUnprimed from → number_in_value from ≡ number
    → IsExchange call (key_of_call call) from to)
IsDecided call number decision.Overflow =
    (leaves_alone call number ≡ false) × ((m : Numbers) → map.get m (key_of_call call) ≡ number
    → overflows call m ≡ true)
