-- When a lane's handle may be given back, and what a call through a lane promises.
use mathlib.Core.Option.{none}
use Rattle.std.specs.Prelude.{◌≡◌, ◌∷◌, ℕ, Err, None, Ok, Option, Result, Some, List, [], true}
use Rattle.atomic_table.specs.Table.{Allows, Me, Step, step}
use Rattle.nb_core.specs.Calls.{overflows}
use Rattle.nb_core.specs.Log.{Entry, log_of, map_of_log}
use Rattle.nb_core.specs.declared.calls.Call.{Call}
use Rattle.nb_core.specs.declared.calls.Reply.{Reply}
use Rattle.nb_map.specs.Handles.{HandleOf}
use Rattle.nb_map.specs.declared.faults.PutFault.TheVariants as put_fault
use Rattle.nb_map.specs.declared.faults.PutFault.{PutFault}
use Rattle.nb_lasting.specs.Epochs.{HasGoneOnBy}
use Rattle.nb_lasting.specs.Lasting.{IsNewKey, IsRefusedFor}
use Rattle.nb_lasting.specs.Shared.{IsOneLog, word_of}
use Rattle.nb_lasting.specs.Tries.{HasTriedOn, HasTriedAlone}
use Rattle.nb_lasting.specs.Visits.{SharedOf}
use Rattle.nb_lasting.specs.declared.faults.WriteFault.TheVariants as fault
use Rattle.nb_lasting.specs.declared.faults.WriteFault.{WriteFault}
use Rattle.nb_lasting.specs.declared.shared.Account.{Account}
use Rattle.nb_lasting.specs.declared.shared.LaneView.{LaneView}
use Rattle.nb_lasting.specs.declared.shared.Opened.{Opened}

-- A lane's handle may be given back so, by a swap of the lane's word: whatever the table is then, its
-- rule is kept.
abbrev pub MayGive :
    (then : Step (Option HandleOf) → Me (Option HandleOf) LaneView → ℕ
    → Me (Option HandleOf) LaneView → Type 0)
    → (p : Opened) → (slots lane id : ℕ) → Me (Option HandleOf) LaneView → Type 0
MayGive then p slots lane id me =
    Allows (IsOneLog p) slots id me (word_of lane) (λ _. 0)
    (then (step slots (word_of lane) 0 0 none) me)

-- it was given back so, whatever the word was
abbrev pub HasGivenBy :
    (then : Step (Option HandleOf) → Me (Option HandleOf) LaneView → ℕ
    → Me (Option HandleOf) LaneView → Type 0)
    → (slots lane : ℕ) → (before after : Me (Option HandleOf) LaneView) → Type 0
HasGivenBy then slots lane before after =
    (found : ℕ) × then (step slots (word_of lane) 0 0 none) before found after

-- ---- what a call through a lane promises

-- a guest that makes no call
pub record IsIdleGuest (lane : ℕ) (me : Me (Option HandleOf) LaneView) : Type 0 where
  pub guest : me.0.guest ≡ Some lane
  pub outs : me.0.outs ≡ []
  pub slots : me.1 ≡ []

-- The guest has made these calls: the one log has gone on, all of it is replayed, and of what is
-- new just these calls are the guest's, the newest first.
abbrev pub HasCalledIn :
    (lane : ℕ) → (before after : LaneView) → (made : List (Call × Reply)) → Type 0
HasCalledIn lane before after made =
    HasGoneOnBy lane (log_of before.seen) (log_of after.seen) made

-- why a write through a lane is refused, by the log that the guest knows then
abbrev pub IsJustIn : Call → List Entry → PutFault → Type 0
IsJustIn call log put_fault.Full = IsNewKey call (map_of_log log)
IsJustIn call log put_fault.Contended = Unit {0}
IsJustIn call log put_fault.ValueRange = overflows call (map_of_log log) ≡ true

-- what a write through a lane promises, which may be refused: then the guest has called nothing
abbrev pub HasWrittenIn :
    (lane : ℕ) → (before after : LaneView) → Call → Result Reply PutFault → Type 0
HasWrittenIn lane before after call (Ok reply) = HasCalledIn lane before after ((call, reply) ∷ [])
HasWrittenIn lane before after call (Err fault) =
    HasCalledIn lane before after [] × IsJustIn call (log_of after.seen) fault

-- what a write with all handles promises: it is made; or nothing is called, and the map may have
-- more room; or it is refused
abbrev pub HasTriedIn :
    (lane : ℕ) → (before after : LaneView) → Call → Result (Option Reply) WriteFault → Type 0
HasTriedIn lane before after call (Ok None) = HasCalledIn lane before after []
HasTriedIn lane before after call (Ok (Some reply)) =
    HasCalledIn lane before after ((call, reply) ∷ [])
HasTriedIn lane before after call (Err fault) =
    HasCalledIn lane before after [] × IsRefusedFor call (map_of_log (log_of after.seen)) fault

-- what it answers, of what the write by the guest's own handle did
abbrev pub tried_of : Result Reply PutFault → Result (Option Reply) WriteFault
tried_of (Ok reply) = Ok (Some reply)
tried_of (Err put_fault.Full) = Ok None
tried_of (Err put_fault.Contended) = Ok None
tried_of (Err put_fault.ValueRange) = Err fault.ValueRange

-- ---- how a write goes on

-- whatever it does from then on, after one more try
abbrev pub CanGoOn :
    Call → (lane : ℕ) → (of : SharedOf) → (was : Result Reply PutFault) → (before after : Account) → Type 0
CanGoOn call lane of was before after =
    (outcome : Result Reply PutFault) (then last : Account) (made : List (Call × Reply))
    → HasTriedAlone call lane after then outcome → HasTriedOn call lane of outcome then last made
    → HasTriedOn call lane of was before last made

-- what a write with all handles has done, where the map was full: it is made or refused, or goes on
abbrev pub HasTriedOnAs :
    Call → (lane : ℕ) → (of : SharedOf) → (before after : Account) → Result (Option Reply) WriteFault → Type 0
HasTriedOnAs call lane of before after (Ok None) =
    CanGoOn call lane of (Err put_fault.Full) before after
HasTriedOnAs call lane of before after (Ok (Some reply)) =
    HasTriedOn call lane of (Err put_fault.Full) before after ((call, reply) ∷ [])
HasTriedOnAs call lane of before after (Err fault) =
    HasTriedOn call lane of (Err put_fault.Full) before after []
