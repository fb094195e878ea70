-- What the steps promise by which a key leaves a core.
use Rattle.std.specs.Prelude.{◌≡◌, ℕ, if◌then◌else◌, Option, Some, Result, Ok, Err}
use Rattle.nb_core.specs.Log.{changed, holds_of}
use Rattle.nb_core.specs.declared.calls.Call.{Call}
use Rattle.nb_core.specs.declared.calls.Call.TheVariants.{Get, Write}
use Rattle.nb_map.specs.Maps.{MapOf, SeatOf}
use Rattle.nb_map.specs.NamedCalls.{exchange_of, put_if_absent_of}
use Rattle.nb_map.specs.Progress.{Tries}
use Rattle.nb_map.specs.Promises.{HasWritten}
use Rattle.nb_map.specs.declared.faults.PutFault.{PutFault}
use Rattle.nb_migration.specs.Numbers.{frozen_of, seen_of}
use Rattle.nb_migration.specs.Writes.{fault_of, outcome_of}
use Rattle.nb_migration.specs.declared.numbers.Seen.{Seen}
use Rattle.nb_migration.specs.declared.numbers.TheConstants.{CLOSED}
use Rattle.nb_migration.specs.declared.writes.CoreFault.{CoreFault}

-- ---- the calls of the steps in the core that the key leaves

-- the number at the key is frozen
abbrev pub freeze_of : (key number : ℕ) → Call
freeze_of key number = exchange_of key (Some number) (Some (frozen_of number))

-- the key is closed, whose number is frozen
abbrev pub mark_of : (key number : ℕ) → Call
mark_of key number = exchange_of key (Some (frozen_of number)) (Some CLOSED)

-- the key is closed, which has no number
abbrev pub close_of : (key : ℕ) → Call
close_of key = put_if_absent_of key CLOSED

-- ---- what they promise

-- what a call leaves at its key, where it finds this number, or none
abbrev pub left_by : Call → Option ℕ → Option ℕ
left_by (Get k) found = found
left_by (Write k want change) found = if holds_of want found then changed change found else found

-- the answer of a step that has found this, or is refused: what it leaves
abbrev pub seen_after : Call → Result (Option ℕ) PutFault → Result Seen CoreFault
seen_after call (Ok found) = Ok (seen_of (left_by call found))
seen_after call (Err refusal) = Err (fault_of refusal)

-- what a step promises that is this one call, with so many tries
pub record HasStepped (map : MapOf) (call : Call) (before after : SeatOf) (tries : ℕ)
    (result : Result Seen CoreFault) : Type 0 where
  -- it is in the log once, with its reply to what it found; or it isn't there, and is refused for a
  -- just reason; and it has all else that a write of the map has, a bound of its steps among it
  pub found : Result (Option ℕ) PutFault
  pub written : HasWritten map call before after (Tries tries) (outcome_of call found)
  -- it answers what the key has then
  pub answered : result ≡ seen_after call found
