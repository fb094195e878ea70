-- Where a call has come to on its way up the tables, and what it comes to there.
use Rattle.std.specs.Prelude.{ℕ, List, [], ◌∷◌, ◌≡◌, ◌≤◌, ◌<◌, ◌⊎◌, ◌+◌, suc, true, false, Option, None, Some, Result, Ok, Err}
use Rattle.nb_core.specs.Calls.{Fills, leaves_alone}
use Rattle.nb_core.specs.History.{key_of_call}
use Rattle.nb_core.specs.Log.{reply_at}
use Rattle.nb_core.specs.Paths.{IsPlaced}
use Rattle.nb_core.specs.Plans.{Plan, generations_of, size_of}
use Rattle.nb_core.specs.Tables.{AreOthers, HasSlotBelow, IsInstalled, IsPassed, IsReady, IsUnprimed, Tables}
use Rattle.nb_core.specs.declared.calls.Call.{Call}
use Rattle.nb_core.specs.declared.calls.Reply.{Reply}
use Rattle.nb_core.specs.declared.slot_paths.Slot.{Slot}
use Rattle.nb_core.specs.declared.states.KeyState.TheVariants.{Claimed}
use Rattle.nb_table.specs.Chains.{ChainOf, IsOwn, SeenBy, seen_by}
use Rattle.nb_table.specs.Conditions.{IsReached}
use Rattle.nb_map.specs.Progress.{Tries, Unlimited, passed_since}
use Rattle.nb_map.specs.Refusals.{IsJust}
use Rattle.nb_map.specs.declared.faults.PutFault.TheVariants as fault
use Rattle.nb_map.specs.declared.faults.PutFault.{PutFault}
use Rattle.nb_map.specs.declared.steps.slot.Attempt.TheVariants as attempt
use Rattle.nb_map.specs.declared.steps.slot.Attempt.{Attempt}
use Rattle.nb_map.specs.declared.steps.rung.Below.TheVariants as below
use Rattle.nb_map.specs.declared.steps.rung.Below.{Below}
use Rattle.nb_map.specs.declared.steps.rung.Rung.{Rung}
use Rattle.nb_map.specs.declared.steps.rung.Visit.TheVariants.{Told, Refused, Above}
use Rattle.nb_map.specs.declared.steps.rung.Visit.{Visit}

-- ---- where a call has come to

-- what a call knows of the table below the one it has come to: that it is complete, that its key
-- has a slot there, or no more than that the key is passed there
abbrev pub HasBelow : Plan → Tables → (g k : ℕ) → Below → Type 0
HasBelow p t g k below.Complete = IsReady p t g
HasBelow p t g k below.HasKey = HasSlotBelow p t g k
HasBelow p t g k below.Passed = Unit {0}

-- The call has come to this table, by what the seat has seen: the table is there, and in each table
-- below it the call's key is passed. Other keys have the key's path up to the distance; only a call
-- that puts a number at an absent key may have come to the path's end. And what it knows of the
-- table below is so.
pub record IsAt (chain : ChainOf) (call : Call) (seat : SeenBy) (rung : Rung) : Type 0 where
  pub own : IsOwn chain seat
  pub table : rung.g < generations_of chain.shape
  pub reached : IsReached chain.shape (seen_by chain.shape seat) rung.g (key_of_call call)
  pub within : rung.from ≤ size_of chain.shape rung.g
  pub start : (rung.from < size_of chain.shape rung.g) ⊎ Fills call
  pub others : AreOthers chain.shape (seen_by chain.shape seat) rung.g (key_of_call call) rung.from
  pub known : HasBelow chain.shape (seen_by chain.shape seat) rung.g (key_of_call call) rung.below

-- where a call begins in a table, if the table below it is complete
abbrev pub rung_at : ℕ → Rung
rung_at g = record { g = g; from = 0; below = below.Complete }

-- where a read goes on in a table
abbrev pub rung_for_read : (g from : ℕ) → Rung
rung_for_read g from = record { g = g; from = from; below = below.Passed }

-- The call has come to this slot, which is its key's.
pub record IsAtSlot (chain : ChainOf) (call : Call) (seat : SeenBy) (at : Slot) : Type 0 where
  pub own : IsOwn chain seat
  pub slot : IsPlaced chain.shape at
  pub claimed : (seen_by chain.shape seat).key at.g at.i ≡ Claimed (key_of_call call)
  pub reached : IsReached chain.shape (seen_by chain.shape seat) at.g (key_of_call call)

-- the call may go on in the next table: it is there, and the call's key is passed in this one
abbrev pub IsAbove : Plan → Tables → (g k : ℕ) → Type 0
IsAbove p t g k = IsPassed p t g k × IsInstalled t (suc g)

-- this slot of the table is the key's
abbrev pub IsSlotOf : Plan → Tables → (g i k : ℕ) → Type 0
IsSlotOf p t g i k = (i < size_of p g) × (t.key g i ≡ Claimed k)

-- ---- what it comes to

-- the call leaves alone whatever it finds, as a read does
abbrev pub LeavesAllAlone : Call → Type 0
LeavesAllAlone call = (number : Option ℕ) → leaves_alone call number ≡ true

-- the reply is the call's for what it found
abbrev pub IsReplied : Call → Reply → Type 0
IsReplied call reply = reply ≡ reply_at call reply.before

-- the call is refused for a just reason, and doesn't leave alone whatever it finds
abbrev pub IsRefused : Plan → Call → (before after : SeenBy) → (tries : ℕ) → PutFault → Type 0
IsRefused p call before after tries why =
    IsJust p call before after (Tries tries) why × (LeavesAllAlone call → ⊥)

-- It has lost no more of its tries than others won exchanges on its key. A call that leaves alone
-- whatever it finds loses none.
pub record IsSpent (call : Call) (before after : SeenBy) (tries left : ℕ) : Type 0 where
  pub fewer : left ≤ tries
  pub lost : tries ≤ left + passed_since call before after
  pub read : LeavesAllAlone call → left ≡ tries

-- it may go on in the next table, where it knows this of the table that it leaves
abbrev pub GoesAbove : Plan → Call → SeenBy → (g : ℕ) → Below → Type 0
GoesAbove p call seat g below =
    IsAbove p (seen_by p seat) g (key_of_call call)
    × HasBelow p (seen_by p seat) (suc g) (key_of_call call) below

-- what a call with so many tries, of which so many are left, has come to in table g
abbrev pub IsVisit :
    Plan → Call → (before after : SeenBy) → (g tries left : ℕ) → Visit → Type 0
IsVisit p call before after g tries left (Told reply) = IsReplied call reply
IsVisit p call before after g tries left (Refused why) = IsRefused p call before after tries why
IsVisit p call before after g tries left (Above below) = GoesAbove p call after g below × (1 ≤ left)

-- what a call with so many tries, of which so many are left, has come to at its key's slot: it is
-- made or refused there; or the slot is being copied, and holds the value of this word, primed or
-- final
abbrev pub IsTried :
    Plan → Call → (before after : SeenBy) → Slot → (tries left : ℕ) → Attempt → Type 0
IsTried p call before after at tries left (attempt.Made reply) = IsReplied call reply
IsTried p call before after at tries left (attempt.Left reply) =
    IsReplied call reply × (leaves_alone call reply.before ≡ true)
IsTried p call before after at tries left attempt.Overflow =
    IsRefused p call before after tries fault.ValueRange
IsTried p call before after at tries left attempt.Lost =
    IsRefused p call before after tries fault.Contended
IsTried p call before after at tries left (attempt.Copied word) =
    (IsUnprimed word → ⊥) × ((seen_by p after).value at.g at.i ≡ word) × (1 ≤ left)

-- what a call without further tries comes to, which has found this number at its key, or none: it
-- is made if it leaves that as it is
abbrev pub IsWithoutTries : Call → Option ℕ → Attempt → Type 0
IsWithoutTries call found (attempt.Left reply) =
    (leaves_alone call found ≡ true) × (reply ≡ reply_at call found)
IsWithoutTries call found attempt.Lost = leaves_alone call found ≡ false
IsWithoutTries call found _ = ⊥

-- the call, where it was made
abbrev pub made_by : Call → Visit → List (Call × Reply)
made_by call (Told reply) = (call, reply) ∷ []
made_by call (Refused why) = []
made_by call (Above below) = []

-- the same at its key's slot
abbrev pub made_if_tried : Call → Attempt → List (Call × Reply)
made_if_tried call (attempt.Made reply) = (call, reply) ∷ []
made_if_tried call (attempt.Left reply) = (call, reply) ∷ []
made_if_tried call _ = []

-- ---- the search for the key's slot

-- the reply of a call that leaves an absent key alone, where it finds none
abbrev pub IsForAbsent : Call → Reply → Type 0
IsForAbsent call reply = (leaves_alone call None ≡ true) × (reply ≡ reply_at call None)

-- What it has come to without a slot for its key: it is made only if it leaves an absent key alone,
-- and it can be refused only as full.
abbrev pub IsVisitHere : Plan → Call → SeenBy → (g : ℕ) → Visit → Type 0
IsVisitHere p call seat g (Told reply) = IsForAbsent call reply
IsVisitHere p call seat g (Refused why) =
    (why ≡ fault.Full) × IsJust p call seat seat Unlimited fault.Full
IsVisitHere p call seat g (Above below) = GoesAbove p call seat g below

-- the key has this slot in table g, or the call has come to this there without one
abbrev pub IsFound : Plan → Call → SeenBy → (g : ℕ) → Result ℕ Visit → Type 0
IsFound p call seat g (Ok i) = IsSlotOf p (seen_by p seat) g i (key_of_call call)
IsFound p call seat g (Err visit) = IsVisitHere p call seat g visit

-- the call, where it was made without a slot
abbrev pub made_if_not_found : Call → Result ℕ Visit → List (Call × Reply)
made_if_not_found call (Ok i) = []
made_if_not_found call (Err visit) = made_by call visit

-- its key has this slot now; or another key has got the slot that the call had come to
abbrev pub IsClaimed : Plan → Call → SeenBy → Rung → Option ℕ → Type 0
IsClaimed p call seat rung (Some i) = IsSlotOf p (seen_by p seat) rung.g i (key_of_call call)
IsClaimed p call seat rung None =
    AreOthers p (seen_by p seat) rung.g (key_of_call call) (rung.from + 1)
