-- What the calls of a map promise: one record for each kind of call. The map and its handles cite
-- them. What an update promises is in `Updating`, and what the end of a map does in `Ending`.
use Rattle.std.specs.Prelude.{ℕ, Bool, Option, Result, Ok, Err, ◌≡◌, ◌<◌, [], List, IfSome, None}
use Rattle.nb_core.specs.Log.{reply_at, IsBeginning}
use Rattle.nb_core.specs.Tables.{IsComplete}
use Rattle.nb_core.specs.declared.calls.Call.TheVariants.{Get}
use Rattle.nb_core.specs.declared.calls.Call.{Call}
use Rattle.nb_core.specs.declared.calls.Reply.{Reply}
use Rattle.nb_count.specs.Counts.{with_looks}
use Rattle.nb_table.specs.Chains.{Extended, seen_by}
use Rattle.nb_map.specs.Handles.{HandleWalkOf, KeepsRest}
use Rattle.nb_map.specs.Logs.{HasReplied, HasFound, HasMatched, log, HasLogged}
use Rattle.nb_map.specs.Maps.{SeatOf, MapOf, IsMine, HasWorked}
use Rattle.nb_map.specs.Progress.{IsNonBlocking, IsShortAtHome, IsShortRead, Limit}
use Rattle.nb_map.specs.Refusals.{HasRefused}
use Rattle.nb_map.specs.Steps.{get_steps, slots_ahead, passing_steps}
use Rattle.nb_map.specs.Walks.{WalkOf, IsBefore, IsWalkOf, begun_at, begun_by, walk_from, IsUnderway, HasReached, HasWalked, HasRead, with_shown}
use Rattle.nb_map.specs.declared.faults.Full.{Full}
use Rattle.nb_map.specs.declared.faults.PutFault.TheVariants as fault
use Rattle.nb_map.specs.declared.faults.PutFault.{PutFault}
use Rattle.nb_map.specs.declared.map.walks.WalkPlace.{WalkPlace}
use Rattle.nb_map.specs.declared.steps.walk.Place.TheVariants.{End}
use Rattle.nb_map.specs.declared.steps.walk.Place.{Place}

-- ---- what a write answers

-- what it found at its key; whether its condition held; the whole reply; or why it is refused
pub data Outcome : Type 0 where
  Found : Option ℕ → Outcome
  Matched : Bool → Outcome
  Replied : Reply → Outcome
  Refused : PutFault → Outcome

abbrev pub found_or_refused : Result (Option ℕ) PutFault → Outcome
found_or_refused (Ok number) = Found number
found_or_refused (Err fault) = Refused fault

abbrev pub replied_or_refused : Result Reply PutFault → Outcome
replied_or_refused (Ok reply) = Replied reply
replied_or_refused (Err fault) = Refused fault

-- the same, where it can only be refused as full
abbrev pub found_or_full : Result (Option ℕ) Full → Outcome
found_or_full (Ok number) = Found number
found_or_full (Err full) = Refused fault.Full

-- The seat has made the one call, and the answer tells its reply. Or the call is refused, and then
-- this holds of the refusal.
abbrev pub HasAnswered :
    (Refusal : PutFault → Type 0) → Call → (before after : SeatOf) → Outcome → Type 0
HasAnswered Refusal call before after (Found number) = HasFound call before after number
HasAnswered Refusal call before after (Matched held) = HasMatched call before after held
HasAnswered Refusal call before after (Replied reply) = HasReplied call before after reply
HasAnswered Refusal call before after (Refused fault) = Refusal fault

-- ---- writes

-- what a write promises that has so many tries, or as many as it takes
pub record HasWritten (map : MapOf) (call : Call) (before after : SeatOf) (limit : Limit)
    (outcome : Outcome) : Type 0 where
  -- it is in the log once, with its reply; or it isn't there, and is refused for a just reason
  pub answered : HasAnswered (HasRefused map call before after limit) call before after outcome
  -- its steps have a bound that grows only with the exchanges that others win on its key, and never
  -- past what its tries take
  pub non_blocking : IsNonBlocking map call before after limit
  -- at most three steps, or five, where it is alone with its key at home in the table that the seat
  -- remembered
  pub short : IsShortAtHome map.chain.shape call before.chain after.chain
  -- the seat is still the map's, as after every call
  pub own : IsMine map after

-- ---- reads

-- what a read of a key promises, which finds this number there, or none
pub record HasGot (map : MapOf) (key : ℕ) (before after : SeatOf) (found : Option ℕ) :
    Type 0 where
  -- it is in the log once, with its reply
  pub replied : HasReplied (Get key) before after (reply_at (Get key) found)
  -- it is wait-free: its steps have a bound, whatever others do
  pub worked : HasWorked map (Get key) before after (get_steps map.chain.shape)
  -- at most two steps, where the key is at home in the table that the seat remembered; and at most
  -- five, where it is so in the top table
  pub short : IsShortRead map.chain.shape key before.chain after.chain
  pub own : IsMine map after

-- ---- looks at the map as a whole

-- what a look at the top word promises, which shows that so many tables are complete, from the
-- first on
pub record HasSeenTop (map : MapOf) (before after : SeatOf) (top : ℕ) : Type 0 where
  -- the answer is the top word that the seat has now seen
  pub found : (seen_by map.chain.shape after.chain).top ≡ top
  -- and the seat remembers it, so that its calls begin there
  pub remembered : after.chain.top ≡ top
  -- and the tables below that one are complete
  pub complete :
      (g : ℕ) → g < top → IsComplete map.chain.shape (seen_by map.chain.shape after.chain) g
  -- it is no call of the log
  pub logged : HasLogged before after []
  -- it makes one step on the tables, and none on the counter
  pub grows : Extended map.chain.shape before.chain after.chain [] 1
  pub count : after.count ≡ before.count
  pub own : IsMine map after

-- what a look at the counter promises
pub record HasEstimated (map : MapOf) (before after : SeatOf) : Type 0 where
  -- it is no call of the log
  pub logged : HasLogged before after []
  -- it makes no step on the tables, and one on the counter for each stripe
  pub chain : after.chain ≡ before.chain
  pub count : after.count ≡ with_looks map.counter.stripes before.count
  pub own : IsMine map after

-- what a meeting with another seat promises of a seat
pub record HasMet (map : MapOf) (other before after : SeatOf) : Type 0 where
  -- it is no call of the log, and the seat now knows all that the other knew
  pub logged : HasLogged before after []
  pub knows : IsBeginning (log other) (log after)
  -- it makes one step on the tables that is counted, and none on the counter
  pub grows : Extended map.chain.shape before.chain after.chain [] 1
  -- by it, the seat has seen all that the other had
  pub seen : IsBeginning other.chain.seen after.chain.seen
  pub count : after.count ≡ before.count
  pub own : IsMine map after

-- ---- walks

-- what the beginning of a walk promises
pub record HasBegunWalk (map : MapOf) (before after : SeatOf) (walk : WalkOf) : Type 0 where
  -- it begins in the top table that the seat has now seen, with its first slot
  pub begun : walk ≡ begun_by map after
  -- it is this seat's walk over this map
  pub is_walk : IsWalkOf map after walk
  -- it has shown nothing so far
  pub underway : IsUnderway map after walk []
  -- its one step is a look at the top word
  pub top : HasSeenTop map before after after.chain.top

-- what the beginning of a walk at this slot of the top table promises
pub record HasBegunWalkAt (map : MapOf) (before after : SeatOf) (slot : ℕ)
    (at : Option WalkPlace) : Type 0 where
  -- it begins in the top table that the seat has now seen, with this slot, or not at all where that
  -- table has no such slot
  pub begun : at ≡ begun_at map after slot
  -- it is this seat's walk over this map
  pub is_walk : IfSome at (λ at. IsWalkOf map after (walk_from after at))
  -- its one step is a look at the top word
  pub top : HasSeenTop map before after after.chain.top

-- what a call of a walk promises that goes no further than a bound: it shows this pair, or has come
-- to the bound
pub record HasWalkedUpTo (map : MapOf) (bound : Place) (before after : SeatOf) (walk walk' : WalkOf)
    (shown : Option (ℕ × ℕ)) : Type 0 where
  -- its calls in the log are reads: such as found nothing, and at last that of the pair, if it
  -- shows one
  pub read : HasRead before after shown
  -- it passed over no other key that the map had all the while
  pub walked : HasWalked map.chain.shape before after walk walk' shown
  -- it doesn't go beyond the bound; a walk that is beyond it stays where it is
  pub within : IsBefore bound walk'.place → walk'.place ≡ walk.place
  -- where it shows nothing, it has come to the bound
  pub ended : shown ≡ None → HasReached bound walk'.place
  -- so the law of whole walks goes on from it
  pub underway :
      (pairs : List (ℕ × ℕ)) → IsUnderway map before walk pairs
      → IsUnderway map after walk' (with_shown shown pairs)
  -- its steps are such as a read may make, of any key, and bounded
  pub worked :
      (key : ℕ) → HasWorked map (Get key) before after
      (passing_steps map.chain.shape walk.place walk'.place)
  -- each pair that is shown brings the end nearer
  pub ahead :
      IfSome shown (λ pair. slots_ahead map.chain.shape walk'.place
      < slots_ahead map.chain.shape walk.place)
  -- it is still the seat's walk over this map
  pub is_walk : IsWalkOf map after walk'
  pub own : IsMine map after

-- the same of one that goes on to the walk's end: it shows this pair, or has ended the walk
abbrev pub HasWalkedOn :
    (map : MapOf) → (before after : SeatOf) → (walk walk' : WalkOf) → Option (ℕ × ℕ) → Type 0
HasWalkedOn map = HasWalkedUpTo map End

-- the same of a walk by a handle, which keeps its map and its reserve
pub record HandleHasWalkedOn (before : HandleWalkOf) (shown : Option (ℕ × ℕ))
    (after : HandleWalkOf) : Type 0 where
  -- what the map's call promises, of the handle's map, seat and walk
  pub on :
      HasWalkedOn before.handle.map before.handle.seat after.handle.seat before.walk after.walk shown
  pub rest : KeepsRest before.handle after.handle

-- how many slots a walk by a handle has ahead of it: a measure of loops over it
abbrev pub ahead_of : HandleWalkOf → ℕ
ahead_of walk = slots_ahead walk.handle.map.chain.shape walk.walk.place
