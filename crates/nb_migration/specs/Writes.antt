-- What writes in a core promise, and what they answer.
use Rattle.std.specs.Prelude.{◌≡◌, ℕ, not, ◌&&◌, Bool, true, false, if◌then◌else◌, Option, Some, None, Result, Ok, Err}
use Rattle.nb_core.specs.Calls.{same_number}
use Rattle.nb_core.specs.Log.{changed, holds_of, reply_at}
use Rattle.nb_core.specs.declared.calls.Call.{Call}
use Rattle.nb_core.specs.declared.calls.Call.TheVariants.{Get, Write}
use Rattle.nb_core.specs.declared.calls.Change.{Change}
use Rattle.nb_core.specs.declared.calls.Change.TheVariants.{Add, Remove}
use Rattle.nb_map.specs.Maps.{MapOf, SeatOf}
use Rattle.nb_map.specs.NamedCalls.{exchange_of}
use Rattle.nb_map.specs.Progress.{Tries}
use Rattle.nb_map.specs.Promises.{HasGot, HasWritten, Outcome, Refused, Replied}
use Rattle.nb_map.specs.declared.faults.PutFault.{PutFault}
use Rattle.nb_map.specs.declared.faults.PutFault.TheVariants as put_fault
use Rattle.nb_migration.specs.Numbers.{is_open}
use Rattle.nb_migration.specs.declared.writes.CoreFault.{CoreFault}
use Rattle.nb_migration.specs.declared.writes.CoreFault.TheVariants as fault
use Rattle.nb_migration.specs.declared.writes.Written.{Written}
use Rattle.nb_migration.specs.declared.writes.Written.TheVariants.{Absent, Came, Changed, Kept, Moved}

-- ---- what a write answers

-- the answer of a call whose condition doesn't hold of this number of the user: that it stays, or of
-- an add, that the sum is none of the user's
abbrev pub kept_by : Change → ℕ → Result Written CoreFault
kept_by (Add d) n = Err fault.SumRange
kept_by change n = Ok (Kept n)

-- the answer of a call that found this number of the user
abbrev pub answer_at : Call → ℕ → Result Written CoreFault
answer_at (Get k) n = Ok (Kept n)
answer_at (Write k want change) n =
    if holds_of want (Some n) then Ok (Changed n) else kept_by change n

-- the answer of a call that found no number
abbrev pub answer_at_none : Call → Written
answer_at_none (Get k) = Absent
answer_at_none (Write k want Remove) = Absent
answer_at_none (Write k want change) = if holds_of want None then Came else Absent

-- the answer of a call that found this number, or none
abbrev pub answer_to : Call → Option ℕ → Result Written CoreFault
answer_to call None = Ok (answer_at_none call)
answer_to call (Some n) = if is_open (Some n) then answer_at call n else Ok Moved

-- a refusal of the map's, by its name here
abbrev pub fault_of : PutFault → CoreFault
fault_of put_fault.Full = fault.Full
fault_of put_fault.Contended = fault.Contended
fault_of put_fault.ValueRange = fault.SumRange

-- the answer of a call that has found this, or is refused
abbrev pub answer_or_fault : Call → Result (Option ℕ) PutFault → Result Written CoreFault
answer_or_fault call (Ok found) = answer_to call found
answer_or_fault call (Err refusal) = Err (fault_of refusal)

-- the same, as the map tells it
abbrev pub outcome_of : Call → Result (Option ℕ) PutFault → Outcome
outcome_of call (Ok found) = Replied (reply_at call found)
outcome_of call (Err refusal) = Refused refusal

-- ---- writes in one call

-- The write acts only where its key has no number or one of the user's, and it leaves none there or
-- one of the user's. So what is frozen or closed stays.
abbrev pub IsOpenWrite : Call → Type 0
IsOpenWrite (Get k) = ⊥
IsOpenWrite (Write k want change) =
    (found : Option ℕ) → holds_of want found ≡ true
    → (is_open found ≡ true) × (is_open (changed change found) ≡ true)

-- what a write promises that is this one call, with so many tries
pub record HasWrittenOpen (map : MapOf) (call : Call) (before after : SeatOf) (tries : ℕ)
    (result : Result Written CoreFault) : Type 0 where
  pub only_open : IsOpenWrite call
  -- it is in the log once, with its reply to what it found; or it isn't there, and is refused for a
  -- just reason; and it has all else that a write of the map has, a bound of its steps among it
  pub found : Result (Option ℕ) PutFault
  pub written : HasWritten map call before after (Tries tries) (outcome_of call found)
  pub answered : result ≡ answer_or_fault call found

-- ---- writes that read first

-- the answer of a write that read first, by that of its exchange: where this left what it found, it
-- is contended, since that is no more what was read
abbrev pub unless_left : Result Written CoreFault → Result Written CoreFault
unless_left (Ok Absent) = Err fault.Contended
unless_left (Ok (Kept n)) = Err fault.Contended
unless_left answer = answer

-- there is something to be done: what was read is none or a number of the user, and isn't what is to
-- be there
abbrev pub is_to_do : (read new : Option ℕ) → Bool
is_to_do read new = is_open read && not (same_number new read)

-- How a write ends that has read this number, or none, and is to put this there, where something is
-- to be done: it exchanges the one for the other. Else it calls nothing more.
abbrev pub HasFollowedUp :
    (to_do : Bool) → MapOf → (key : ℕ) → (read new : Option ℕ) → (before after : SeatOf)
    → (tries : ℕ) → Result Written CoreFault → Type 0
HasFollowedUp true map key read new before after tries result =
    (answer : Result Written CoreFault) × (result ≡ unless_left answer)
    × HasWrittenOpen map (exchange_of key read new) before after tries answer
HasFollowedUp false map key read new before after tries result =
    (result ≡ answer_to (Get key) read) × (after ≡ before)

-- What a write promises that reads first, where `new_of` tells what it makes of the number that it
-- finds, or of none: a read of its key, and at most one exchange after that.
pub record HasReadThenWritten (map : MapOf) (new_of : Option ℕ → Option ℕ) (key : ℕ) (before after : SeatOf)
    (tries : ℕ) (result : Result Written CoreFault) : Type 0 where
  pub read : Option ℕ
  pub middle : SeatOf
  pub got : HasGot map key before middle read
  pub followed_up :
      HasFollowedUp (is_to_do read (new_of read)) map key read (new_of read) middle after tries result

-- what a replacement makes of a number: this one; and none of none
abbrev pub replaced_by : (number : ℕ) → Option ℕ → Option ℕ
replaced_by number None = None
replaced_by number (Some was) = Some number
