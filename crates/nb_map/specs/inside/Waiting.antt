-- Writes come in two parts: a straight way, at the key's home slot, and a general one.
use Rattle.std.specs.Prelude.{ℕ, pos, [], true, ◌≡◌, ◌⊎◌, ◌+◌, ◌-◌, ◌<◌, ◌≤◌, IfErr, Option, None, Some, Result, Ok, Err}
use Rattle.nb_core.specs.Calls.{overflows}
use Rattle.nb_core.specs.Log.{Numbers}
use Rattle.nb_core.specs.Meaning.{net_of_call}
use Rattle.nb_core.specs.Plans.{Plan}
use Rattle.nb_core.specs.declared.calls.Call.{Call}
use Rattle.nb_core.specs.declared.calls.Reply.{Reply}
use Rattle.nb_table.specs.Chains.{ChainOf, IsOwn, SeenBy}
use Rattle.nb_map.specs.Calling.{HasMade}
use Rattle.nb_map.specs.Logs.{HasLogged, made_in}
use Rattle.nb_map.specs.Maps.{HasWorked, IsMine, MapOf, SeatOf}
use Rattle.nb_map.specs.Progress.{IsAloneAtHome, IsKnownHome, IsLastSeen, IsShortAtHome, Limit, Tries, Unlimited, passed_since, within}
use Rattle.nb_map.specs.Promises.{HasAnswered, HasWritten, Outcome, Refused, Replied}
use Rattle.nb_map.specs.Refusals.{IsJust}
use Rattle.nb_map.specs.Steps.{climb_steps, home_steps, lost_steps, put_steps}
use Rattle.nb_map.specs.declared.faults.AddFault.TheVariants as add_fault
use Rattle.nb_map.specs.declared.faults.AddFault.{AddFault}
use Rattle.nb_map.specs.declared.faults.PutFault.TheVariants as fault
use Rattle.nb_map.specs.declared.faults.PutFault.{PutFault}
use Rattle.nb_map.specs.declared.faults.Full.{Full}
use Rattle.nb_map.specs.declared.map.answers.Added.TheVariants as added
use Rattle.nb_map.specs.declared.map.answers.Added.{Added}
use Rattle.nb_map.specs.declared.map.answers.Gone.TheVariants as gone
use Rattle.nb_map.specs.declared.map.answers.Gone.{Gone}
use Rattle.nb_map.specs.declared.map.answers.Tried.TheVariants as tried
use Rattle.nb_map.specs.declared.map.answers.Tried.{Tried}
use Rattle.nb_map.specs.declared.map.straight.Straight.TheVariants as straight
use Rattle.nb_map.specs.declared.map.straight.Straight.{Straight}
use Rattle.nb_map.specs.declared.steps.slot.AtHome.TheVariants as at_home
use Rattle.nb_map.specs.declared.steps.slot.AtHome.{AtHome}

-- ---- on the tables

-- The write is told this: it is made with this reply, or refused for a just reason. It has made no
-- more steps than one try takes, and few where it was alone at home.
pub record HasBeenTold (p : Plan) (call : Call) (before after : SeenBy)
    (told : Result Reply PutFault) : Type 0 where
  pub made : HasMade p call before after (made_in call told) (put_steps p 1)
  pub refused : IfErr told (IsJust p call before after Unlimited)
  pub looked : before.steps < after.steps
  pub short : IsShortAtHome p call before after

-- The write has looked at its key's home slot in vain, in the table that its seat remembered. It is
-- neither made nor refused. It has lost so many exchanges, no more than others won on its key, and
-- wasn't alone there.
pub record HasLookedInVain (chain : ChainOf) (call : Call) (before after : SeenBy) (lost : ℕ) :
    Type 0 where
  pub own : IsOwn chain before
  pub passed : lost ≤ passed_since call before after
  pub looked : before.steps < after.steps
  pub made : HasMade chain.shape call before after [] (home_steps + lost)
  pub away :
      IsAloneAtHome chain.shape before.top call before after
      → IsKnownHome chain.shape before.top call before ⊎ IsLastSeen chain.shape before.top after
      → ⊥

-- what the first try at home comes to, which begins with one try and has so many left; what it left
-- as it was counts nothing
abbrev pub HasTriedAtHome :
    ChainOf → Call → (before after : SeenBy) → (left : ℕ) → AtHome → Type 0
HasTriedAtHome chain call before after left (at_home.Made reply) =
    HasBeenTold chain.shape call before after (Ok reply)
HasTriedAtHome chain call before after left (at_home.Left reply) =
    HasBeenTold chain.shape call before after (Ok reply) × (net_of_call call reply ≡ pos 0)
HasTriedAtHome chain call before after left at_home.Overflow =
    HasBeenTold chain.shape call before after (Err fault.ValueRange)
HasTriedAtHome chain call before after left at_home.GoesOn =
    HasLookedInVain chain call before after (1 - left)

-- the most steps of the general way, where others won so many exchanges on the key: the load of the
-- top word, and the way up
abbrev pub general_steps : Plan → Limit → (passed : ℕ) → ℕ
general_steps p limit passed = 1 + (climb_steps p + lost_steps p (within limit passed))

-- What the general way comes to, with so many tries, maybe none, or as many as it takes. Without a
-- try the write is refused.
pub record HasClimbed (p : Plan) (call : Call) (before after : SeenBy) (limit : Limit)
    (told : Result Reply PutFault) : Type 0 where
  pub made :
      HasMade p call before after (made_in call told)
      (general_steps p limit (passed_since call before after))
  pub refused : IfErr told (IsJust p call before after limit)

-- ---- on the map

-- what is left of the tries, after so many lost exchanges
abbrev pub LeavesTries : (limit : Limit) → (lost : ℕ) → (left : Limit) → Type 0
LeavesTries Unlimited lost Unlimited = Unit {0}
LeavesTries (Tries tries) lost (Tries left) = left + lost ≡ tries
LeavesTries _ lost _ = ⊥

-- The seat has looked in vain, and has counted nothing. The write has yet to be made, with what is
-- left of its tries.
pub record HasYetToWrite (map : MapOf) (call : Call) (before after : SeatOf) (limit left : Limit) :
    Type 0 where
  pub mine : IsMine map before
  pub lost : ℕ
  pub looked : HasLookedInVain map.chain call before.chain after.chain lost
  pub left_over : LeavesTries limit lost left
  pub count : after.count ≡ before.count
  pub own : IsMine map after

-- no sum comes past the greatest number by the call
abbrev pub CantOverflow : Call → Type 0
CantOverflow call = (m : Numbers) → overflows call m ≡ true → ⊥

-- what the straight way comes to: the write's whole promise, or a look in vain
abbrev pub HasGoneStraight :
    MapOf → Call → (before after : SeatOf) → (limit left : Limit) → Straight → Type 0
HasGoneStraight map call before after limit left (straight.Made reply) =
    HasWritten map call before after limit (Replied reply)
HasGoneStraight map call before after limit left straight.Overflow =
    HasWritten map call before after limit (Refused fault.ValueRange)
HasGoneStraight map call before after limit left straight.GoesOn =
    HasYetToWrite map call before after limit left

-- it is refused for a reason that is just for so many tries
pub record IsStopped (map : MapOf) (call : Call) (before after : SeatOf) (limit : Limit)
    (fault : PutFault) : Type 0 where
  pub unmade : HasLogged before after []
  pub just : IsJust map.chain.shape call before.chain after.chain limit fault

-- what the general way promises of a write, from the look in vain on
pub record HasGoneOn (map : MapOf) (call : Call) (before after : SeatOf) (limit : Limit)
    (outcome : Outcome) : Type 0 where
  pub answered : HasAnswered (IsStopped map call before after limit) call before after outcome
  pub worked :
      HasWorked map call before after
      (general_steps map.chain.shape limit (passed_since call before.chain after.chain))
  pub own : IsMine map after

-- ---- what the general way answers

-- what a put that waits found, or that it is refused
abbrev pub answer_of_put : Gone → Result (Option ℕ) Full
answer_of_put (gone.Found number) = Ok (Some number)
answer_of_put gone.Nothing = Ok None
answer_of_put gone.Full = Err (record {})

-- what an add that waits found, or why it is refused
abbrev pub answer_of_added : Added → Result (Option ℕ) AddFault
answer_of_added (added.Found number) = Ok (Some number)
answer_of_added added.Nothing = Ok None
answer_of_added added.Full = Err add_fault.Full
answer_of_added added.ValueRange = Err add_fault.ValueRange

-- the same of a write with tries
abbrev pub answer_of_tried : Tried → Result (Option ℕ) PutFault
answer_of_tried (tried.Found number) = Ok (Some number)
answer_of_tried tried.Nothing = Ok None
answer_of_tried tried.Full = Err fault.Full
answer_of_tried tried.Contended = Err fault.Contended
answer_of_tried tried.ValueRange = Err fault.ValueRange
