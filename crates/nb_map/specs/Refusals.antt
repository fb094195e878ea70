-- When a write is refused.
use Rattle.std.specs.Prelude.{◌≡◌, true, ℕ, ◌≤◌, ◌<◌, [], Result, Ok, Err}
use Rattle.nb_core.specs.Calls.{Fills, overflows}
use Rattle.nb_core.specs.History.{key_of_call}
use Rattle.nb_core.specs.Log.{log_of, map_of_log}
use Rattle.nb_core.specs.Meaning.{IsCrowded}
use Rattle.nb_core.specs.Plans.{Plan}
use Rattle.nb_core.specs.declared.calls.Call.{Call}
use Rattle.nb_table.specs.Chains.{SeenBy}
use Rattle.nb_map.specs.Logs.{HasLogged}
use Rattle.nb_map.specs.Maps.{MapOf, SeatOf}
use Rattle.nb_map.specs.Progress.{Limit, Unlimited, Tries, passed_since}
use Rattle.nb_map.specs.declared.faults.AddFault.TheVariants as add_fault
use Rattle.nb_map.specs.declared.faults.AddFault.{AddFault}
use Rattle.nb_map.specs.declared.faults.PutFault.TheVariants as fault
use Rattle.nb_map.specs.declared.faults.PutFault.{PutFault}

-- so many lost exchanges were all the tries; where there is no limit, they never are
abbrev pub AreAllTries : Limit → (lost : ℕ) → Type 0
AreAllTries Unlimited lost = ⊥
AreAllTries (Tries tries) lost = tries ≤ lost

-- Why a write may be refused. It is full only where the call puts a number at an absent key, and
-- other keys have all slots of the last table; contended only where it has so many tries, and
-- others have won at least as many exchanges on the key since the seat's last step before the call;
-- and past the range only where it is an add whose sum is, in the map of the log that the seat then
-- knows.
abbrev pub IsJust : Plan → Call → (before after : SeenBy) → Limit → PutFault → Type 0
IsJust p call before after limit fault.Full = Fills call × IsCrowded p after.seen (key_of_call call)
IsJust p call before after limit fault.Contended =
    AreAllTries limit (passed_since call before after)
IsJust p call before after limit fault.ValueRange =
    overflows call (map_of_log (log_of after.seen)) ≡ true

-- The write is refused: the seat has made no call, and the reason is just, by what it has seen with
-- a step of its own since.
pub record HasRefused (map : MapOf) (call : Call) (before after : SeatOf) (limit : Limit)
    (fault : PutFault) : Type 0 where
  pub unmade : HasLogged before after []
  pub just : IsJust map.chain.shape call before.chain after.chain limit fault
  pub looked : before.chain.steps < after.chain.steps

-- the refusal of an add, as one of a write that may be contended too
abbrev pub as_put_fault : AddFault → PutFault
as_put_fault add_fault.Full = fault.Full
as_put_fault add_fault.ValueRange = fault.ValueRange

-- the answer of a write that can't be contended, as one of a write that may be
abbrev pub uncontended : {A : Type 0} → Result A AddFault → Result A PutFault
uncontended (Ok answer) = Ok answer
uncontended (Err fault) = Err (as_put_fault fault)
