-- What a renewer holds: the handles of the lanes below a number, and of all lanes at last.
use Rattle.std.specs.FinMap as numbers
use Rattle.std.specs.Prelude.{◌≡◌, ◌≢◌, ◌*◌, ◌<◌, ◌≤◌, ◌++◌, ◌⊎◌, ℕ, zero, suc, All, List, [], ◌∷◌, Option, Some, None, IfErr, IfOk, Result, ⊤, length, max, slice_get}
use Rattle.std.specs.declared.alloc.AllocError.{AllocError as OutOfMemory}
use Rattle.atomic_table.specs.Table.{Me}
use Rattle.nb_core.specs.Log.{Entry, Numbers, log_of, map_of_log}
use Rattle.nb_core.specs.Meaning.{IsCrowded}
use Rattle.nb_core.specs.Plans.{Plan}
use Rattle.nb_core.specs.declared.events.Event.{Event}
use Rattle.nb_map.specs.Handles.{HandleOf}
use Rattle.nb_map.specs.Logs.{log}
use Rattle.nb_map.specs.Maps.{MapOf}
use Rattle.nb_lasting.specs.Epochs.{HasGoneOnBy}
use Rattle.nb_lasting.specs.Lasting.{HasSlots, IsGreatest}
use Rattle.nb_lasting.specs.Shared.{EpochIn, IsCurrent, IsKnownOrHasSlots, IsLane, IsOfGuest, KnowsIn}
use Rattle.nb_lasting.specs.Visits.{HasClaimedForItsKeys, began, gave, took}
use Rattle.nb_lasting.specs.declared.shared.Account.{Account}
use Rattle.nb_lasting.specs.declared.shared.Out.{Out}
use Rattle.nb_lasting.specs.declared.shared.LaneView.{LaneView}

-- so many handles of this map, each its lane's, and what each of them knows
pub record AreHeld (m : MapOf) (filled past : List Event) (n : ℕ) (knew : ℕ → List Event)
    (handles : List HandleOf) : Type 0 where
  pub count : length handles ≡ n
  pub each :
      (i : ℕ) (h : HandleOf) → slice_get handles i ≡ Some h
      → IsLane m i h × KnowsIn filled past h.seat (knew i)

-- the lanes below a number, the last first, with what their handles knew, and their empty slots
abbrev pub down : (ℕ → List Event) → ℕ → List Out
down knew zero = []
down knew (suc n) = record { lane = n; knew = knew n } ∷ down knew n

abbrev pub blanks : ℕ → List (ℕ × Option HandleOf)
blanks zero = []
blanks (suc n) = (n, None) ∷ blanks n

-- The handles of all lanes begin an epoch, of a new map or of the same one: it goes on from what
-- each lane's handle knew, by no call of it; and that is what they know. The map has a seat for
-- each lane.
pub record AreAnew (n : ℕ) (knew : ℕ → List Event) (handles : List HandleOf) : Type 0 where
  pub shared : MapOf
  pub next : EpochIn
  pub fits : shared.chain.shape.seats ≡ n
  pub made : All (IsOfGuest n) (log_of next.past)
  pub held : AreHeld shared next.filled next.past n (λ _. next.past) handles
  pub met : (i : ℕ) → i < n → HasGoneOnBy i (log_of (knew i)) (log_of next.past) []

-- They are of the map that they were of, and have called nothing.
pub record AreStill (m : MapOf) (filled past : List Event) (n : ℕ) (knew : ℕ → List Event)
    (handles : List HandleOf) : Type 0 where
  pub know : ℕ → List Event
  pub held : AreHeld m filled past n know handles
  pub gone : (i : ℕ) → i < n → HasGoneOnBy i (log_of (knew i)) (log_of (know i)) []

-- Their seats have one and the same log.
pub record KnowOneLog (handles : List HandleOf) : Type 0 where
  pub whole : List Entry
  pub logs : (i : ℕ) (h : HandleOf) → slice_get handles i ≡ Some h → log h.seat ≡ whole

-- What a renewal makes of all handles of a map. Where it is refused, the epoch is one of the same
-- map, so that what the renewal has read is nobody's call.
abbrev pub AreRenewed :
    Plan → MapOf → (ℕ → List Event) → (after : List HandleOf) → Result ⊤ OutOfMemory → Type 0
AreRenewed p m knew after result =
    (anew : AreAnew p.seats knew after) × IfOk result (λ done. anew.shared.chain.shape ≡ p)
    × IfErr result (λ fault. anew.shared ≡ m)

-- ---- what the renewer's token holds

-- It has the handles of the lanes below this number, in a list of its own.
pub record HoldsBelow (n : ℕ) (me : Me (Option HandleOf) LaneView) (handles : List HandleOf) :
    Type 0 where
  pub knew : ℕ → List Event
  pub epoch : EpochIn
  pub outs : me.0.outs ≡ down knew n
  pub slots : me.1 ≡ blanks n
  pub begun : 0 < n → (me.0.filled ≡ epoch.filled) × (me.0.past ≡ epoch.past)
  pub held : AreHeld me.0.map me.0.filled me.0.past n knew handles
  -- where it is the guest of one of them, what it has seen goes on to what that handle knew
  pub mine : (i : ℕ) → i < n → me.0.guest ≡ Some i → IsCurrent i me.0.seen (knew i)

-- It has them still, and they have called nothing since.
pub record HoldsStill (n : ℕ) (me : Me (Option HandleOf) LaneView) (handles : List HandleOf) :
    Type 0 where
  pub knew : ℕ → List Event
  pub epoch : EpochIn
  pub outs : me.0.outs ≡ down knew n
  pub slots : me.1 ≡ blanks n
  pub begun : 0 < n → (me.0.filled ≡ epoch.filled) × (me.0.past ≡ epoch.past)
  pub still : AreStill me.0.map me.0.filled me.0.past n knew handles
  pub mine : (i : ℕ) → i < n → me.0.guest ≡ Some i → IsCurrent i me.0.seen (knew i)

-- They can go home: they have called nothing since.
pub record CanDealBelow (n : ℕ) (me : Me (Option HandleOf) LaneView) (handles : List HandleOf) :
    Type 0 where
  pub knew : ℕ → List Event
  pub know : ℕ → List Event
  pub outs : me.0.outs ≡ down knew n
  pub slots : me.1 ≡ blanks n
  pub held : AreHeld me.0.map me.0.filled me.0.past n know handles
  pub current : (i : ℕ) → i < n → IsCurrent i (knew i) (know i)

-- It has them still. The other guests' have called nothing since; its guest's own one knows this
-- log, which the guest has seen once that one is back.
pub record CanComeHome (own : ℕ) (whole : List Entry) (n : ℕ) (me : Me (Option HandleOf) LaneView)
    (handles : List HandleOf) : Type 0 where
  pub knew : ℕ → List Event
  pub know : ℕ → List Event
  pub outs : me.0.outs ≡ down knew n
  pub slots : me.1 ≡ blanks n
  pub held : AreHeld me.0.map me.0.filled me.0.past n know handles
  pub current : (i : ℕ) → i < n → i ≢ own → IsCurrent i (knew i) (know i)
  pub guest : me.0.guest ≡ Some own
  pub due : own < n → log_of (know own) ≡ whole
  pub seen : n ≤ own → log_of me.0.seen ≡ whole

-- It has those of all lanes, and they begin an epoch, of the map that it knows or of one with slots
-- for so many keys.
pub record CanDealAnew (keys n : ℕ) (me : Me (Option HandleOf) LaneView) (handles : List HandleOf) :
    Type 0 where
  pub knew : ℕ → List Event
  pub outs : me.0.outs ≡ down knew n
  pub slots : me.1 ≡ blanks n
  pub anew : AreAnew n knew handles
  pub room : IsKnownOrHasSlots keys me.0.map anew.shared

-- a token that has no lane's handle
pub record IsIdleToken (me : Me (Option HandleOf) LaneView) : Type 0 where
  pub outs : me.0.outs ≡ []
  pub slots : me.1 ≡ []

-- the token's guest has seen what it had seen, and makes as many guests
pub record IsSameGuest (before after : LaneView) : Type 0 where
  pub guest : after.guest ≡ before.guest
  pub seen : after.seen ≡ before.seen
  pub dealer : after.dealer ≡ before.dealer

-- ---- a map that has as many keys as it can

-- the handle of this lane has seen other keys in all slots of its last table
abbrev pub IsCrowdedAt : (lane : ℕ) → List HandleOf → (key : ℕ) → Type 0
IsCrowdedAt lane handles key =
    (handle : HandleOf) × (slice_get handles lane ≡ Some handle)
    × IsCrowded handle.map.chain.shape handle.seat.chain.seen key

-- so is this map, which all handles know: it has as many keys as the greatest table has slots
pub record IsFullAt (lane : ℕ) (handles : List HandleOf) (content : Numbers) : Type 0 where
  pub great : IsGreatest content
  pub absent : (key : ℕ) → IsCrowdedAt lane handles key → numbers.get content key ≡ None

-- ---- a map that was made anew

-- The token's map has slots for twice the keys of the map that all handles knew, and for so many at
-- least; and the guest's log goes on to theirs by no call of the guest.
pub record HasRoomAnew (least own : ℕ) (before after : LaneView) : Type 0 where
  pub whole : List Event
  pub current : IsCurrent own before.seen whole
  pub room :
      HasSlots (max (2 * length (numbers.entries (map_of_log (log_of whole)))) least)
      after.map.chain.shape

-- ---- what comes into the account

-- one more handle was taken
pub record HasTakenOne (before after : Account) (handles more : List HandleOf) : Type 0 where
  pub handle : HandleOf
  pub account : after ≡ took handle before
  pub all : more ≡ handles ++ (handle ∷ [])

-- the last handle went home, of this lane, and by its guest, where that is the token's own
pub record HasComeHome (lane own : ℕ) (before after : Account) (handles fewer : List HandleOf) :
    Type 0 where
  pub last : HandleOf
  pub all : handles ≡ fewer ++ (last ∷ [])
  pub given : lane ≡ own → after ≡ gave last before
  pub dealt : lane ≢ own → after ≡ before

-- all handles went home, of which this lane's did so by its guest
abbrev pub AreAllHome : (own : ℕ) → List HandleOf → (before after : Account) → Type 0
AreAllHome own handles before after =
    (back : HandleOf) × (slice_get handles own ≡ Some back) × (after ≡ gave back before)

-- one of these handles went home first, of a map that was made anew, or was not
pub record HasBegunBy (handles : List HandleOf) (before after : Account) : Type 0 where
  pub first : HandleOf
  pub place : ℕ
  pub there : slice_get handles place ≡ Some first
  pub account : after ≡ began first before

-- The first one that went home is of a new map of this shape, which has what these handles know.
pub record HasBegunAs (p : Plan) (handles : List HandleOf) (before after : Account) : Type 0 where
  pub first : HandleOf
  pub account : after ≡ began first before
  pub shape : first.map.chain.shape ≡ p
  pub claimed : HasClaimedForItsKeys first
  pub same : (one : KnowOneLog handles) → map_of_log (log first.seat) ≡ map_of_log one.whole

-- the first one that went home is of this map
pub record HasBegunIn (m : MapOf) (before after : Account) : Type 0 where
  pub first : HandleOf
  pub map : first.map ≡ m
  pub account : after ≡ began first before

-- This lane's handle went home by its guest, and is of this map.
pub record IsHomeSeen (own : ℕ) (m : MapOf) (before after : Account) : Type 0 where
  pub back : HandleOf
  pub map : back.map ≡ m
  pub number : back.seat.chain.number ≡ own
  pub account : after ≡ gave back before

-- All handles went home, of this map still.
abbrev pub AreHomeStill : (own : ℕ) → MapOf → (before after : Account) → Type 0
AreHomeStill own m before after =
    (after ≡ before) ⊎ IsHomeSeen own m before after ⊎ HasBegunIn m before after
