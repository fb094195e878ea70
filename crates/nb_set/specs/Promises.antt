-- What the calls of a set promise: one record for each kind of call. The set and its handles cite
-- them.
use Rattle.std.specs.Prelude.{◌≡◌, ◌<◌, ◌+◌, ℕ, Bool, IfSome, List, [], None, Option, Result, Ok, Err}
use Rattle.nb_core.specs.History.{key_of_call}
use Rattle.nb_core.specs.Log.{IsBeginning}
use Rattle.nb_core.specs.declared.calls.Reply.{Reply}
use Rattle.nb_core.specs.Tables.{IsComplete, tables_at}
use Rattle.nb_map.specs.Logs as of_map
use Rattle.nb_map.specs.Steps.{get_steps}
use Rattle.nb_map.specs.declared.faults.Full.{Full}
use Rattle.nb_set.specs.Handles.{HandleWalkOf, KeepsRest}
use Rattle.nb_set.specs.Log.{Call, Contains}
use Rattle.nb_set.specs.OfMap.{call_for}
use Rattle.nb_set.specs.Sets.{HasLogged, HasLookedOnce, HasNoRoom, HasReplied, HasWorked, IsLockFree, IsMine, IsShortAtHome, IsShortRead, SeatOf, SetOf, generation_of, log, shape_of}
use Rattle.nb_set.specs.Walks.{HasAsked, HasEnded, HasShown, IsLater, IsWalkOf, WalkOf, slots_before, walking_steps, with_shown}
use Rattle.nb_set.specs.Walks as walks

-- ---- writes

-- The seat has made the one call, with this reply. Or the call is refused, and there is no room for
-- its key.
abbrev pub HasAnswered : SetOf → Call → (before after : SeatOf) → Result Bool Full → Type 0
HasAnswered set call before after (Ok reply) = HasReplied call before after reply
HasAnswered set call before after (Err full) =
    HasNoRoom set (key_of_call (call_for call)) before after

-- Of the map that the set is kept in, the seat has made the one call that this call of the set is:
-- `add` is the write that puts number 0 where the key is absent, `remove` the write that removes.
-- Or the call is refused, and it has made none.
abbrev pub HasCalledMap : Call → (before after : SeatOf) → Result Bool Full → Type 0
HasCalledMap call before after (Ok answer) =
    (reply : Reply) × of_map.HasReplied (call_for call) before after reply
HasCalledMap call before after (Err full) = of_map.HasLogged before after []

-- what `add` and `remove` promise, which try again for as long as it takes
pub record HasWritten (set : SetOf) (call : Call) (before after : SeatOf)
    (answer : Result Bool Full) : Type 0 where
  -- it is in the log once, with its reply; or it isn't there, and is refused for want of room
  pub answered : HasAnswered set call before after answer
  -- it is that one call of the map
  pub on_map : HasCalledMap call before after answer
  -- its steps have a bound that grows only with the exchanges that others win on its key
  pub lock_free : IsLockFree set call before after
  -- at most three steps, or five, where it is alone with its key at home in the table that the seat
  -- remembered
  pub short : IsShortAtHome set call before after
  -- the seat is still the set's
  pub own : IsMine set after

-- ---- reads

-- what `contains` promises, which answers whether the key is there
pub record HasLookedUp (set : SetOf) (key : ℕ) (before after : SeatOf) (found : Bool) :
    Type 0 where
  -- it is in the log once, with its reply
  pub replied : HasReplied (Contains key) before after found
  -- it is wait-free: its steps are bounded
  pub worked : HasWorked set (Contains key) before after (get_steps (shape_of set))
  -- at most two steps, where the key is at home in the table that the seat remembered; and at most
  -- five, where it is so in the top table
  pub short : IsShortRead set key before after
  -- the seat is still the set's
  pub own : IsMine set after

-- ---- looks at the set as a whole

-- what a look at the tables promises, which shows that so many of them are complete
pub record HasSeenTop (set : SetOf) (before after : SeatOf) (top : ℕ) : Type 0 where
  -- so many the seat then knows to be complete
  pub found : generation_of set after ≡ top
  -- and remembers, so that its calls begin with the next one
  pub remembered : after.chain.top ≡ top
  -- and they are
  pub complete :
      (g : ℕ) → g < top
      → IsComplete (shape_of set) (tables_at (shape_of set) after.chain.seen) g
  -- it is no call of the log, and makes one step, the look
  pub logged : HasLogged before after []
  pub looked : HasLookedOnce before after
  -- the seat has forgotten nothing, so its walks go on, and is still the set's
  pub later : IsLater before after
  pub own : IsMine set after

-- what an estimate of the size promises
pub record HasEstimated (set : SetOf) (before after : SeatOf) : Type 0 where
  -- it is no call of the log, and makes no step on the tables
  pub logged : HasLogged before after []
  pub chain : after.chain ≡ before.chain
  -- it makes as many steps on the counter as that has stripes
  pub count :
      let count = before.count in
      after.count ≡ record count { steps = count.steps + set.map.counter.stripes }
  -- the seat has forgotten nothing, and is still the set's
  pub later : IsLater before after
  pub own : IsMine set after

-- what a meeting with another seat promises of a seat
pub record HasMet (set : SetOf) (other before after : SeatOf) : Type 0 where
  -- it is no call of the log, and the seat now knows all that the other knew
  pub logged : HasLogged before after []
  pub knows : IsBeginning (log other) (log after)
  -- it makes one step, a look, and has then seen all that the other had
  pub looked : HasLookedOnce before after
  pub seen : IsBeginning other.chain.seen after.chain.seen
  -- it has forgotten nothing, and is still the set's
  pub later : IsLater before after
  pub own : IsMine set after

-- ---- walks

-- what the beginning of a walk promises
pub record HasBegunWalk (set : SetOf) (before after : SeatOf) (walk : WalkOf) : Type 0 where
  -- the walk is this seat's, from here on, and has shown nothing
  pub begun : walks.begun walk ≡ after
  pub is_walk : IsWalkOf set after walk
  pub shown : HasShown set after walk []
  -- its one step is a look at the tables
  pub top : HasSeenTop set before after after.chain.top

-- what a call of a walk promises, which shows this key next, or ends the walk
pub record HasWalkedOn (set : SetOf) (before after : SeatOf) (walk walk' : WalkOf)
    (next : Option ℕ) : Type 0 where
  -- the seat has seen the key in the set, with its place in the log
  pub asked : HasAsked before after next
  -- the walk began where it did, and has shown this key beside those before
  pub begun : walks.begun walk' ≡ walks.begun walk
  pub shown :
      (keys : List ℕ) → HasShown set before walk keys
      → HasShown set after walk' (with_shown next keys)
  -- where it shows none, the walk is at its end
  pub ended : next ≡ None → HasEnded walk'
  -- its steps are such as a `contains` may make, of any key, and bounded
  pub worked :
      (key : ℕ) → HasWorked set (Contains key) before after (walking_steps set walk walk')
  -- each key that is shown brings the end nearer
  pub ahead : IfSome next (λ key. slots_before set walk' < slots_before set walk)
  -- the walk is still the seat's, and the seat the set's
  pub is_walk : IsWalkOf set after walk'
  pub own : IsMine set after

-- The same of a walk by a handle, of whose set and reserve nothing changes.
pub record HandleHasWalkedOn (before : HandleWalkOf) (next : Option ℕ) (after : HandleWalkOf) :
    Type 0 where
  -- what the set's call promises, of the handle's set, seat and walk
  pub on :
      HasWalkedOn before.handle.set before.handle.seat after.handle.seat before.walk after.walk next
  pub rest : KeepsRest before.handle after.handle

-- how many slots a walk by a handle has ahead of it: a measure of loops over it
abbrev pub ahead_of : HandleWalkOf → ℕ
ahead_of walk = slots_before walk.handle.set walk.walk
