-- Lanes that threads share: each guest has one, whose handle is at home in a slot of a table while
-- the guest makes no call. Who makes the map anew takes all handles. This is the rule of that
-- table, with the one log of all calls in it.
use Rattle.std.specs.Prelude.{suc, ◌≡◌, ◌≢◌, ◌==◌, ◌<◌, ◌+◌, ◌*◌, ◌≤◌, ◌-◌, ◌++◌, ◌⊎◌, take, ℕ, if◌then◌else◌, List, [], ◌∷◌, Option, Some, None, All, length, map, slice_index}
use mathlib.Core.Option as maths
use mathlib.Core.Option.{none, some}
use lib.ListN.{get_elem?}
use Rattle.atomic_table.specs.Seated.{TableId}
use Rattle.atomic_table.specs.Table.{Me, State, Step, rest}
use Rattle.nb_core.specs.Log.{Entry, IsReplayed, log_of, map_of_log}
use Rattle.nb_core.specs.declared.events.Event.{Event}
use Rattle.nb_core.specs.declared.events.Event.TheVariants.{Read}
use Rattle.nb_map.specs.Handles.{HandleOf}
use Rattle.nb_map.specs.Logs.{log}
use Rattle.nb_map.specs.Maps.{MapOf, SeatOf}
use Rattle.nb_lasting.specs.Epochs.{HasGoneOnBy}
use Rattle.nb_lasting.specs.Lasting.{HasSlots}
use Rattle.nb_lasting.specs.Visits.{began, gave, no_account, took}
use Rattle.nb_lasting.specs.declared.shared.Account.{Account}
use Rattle.nb_lasting.specs.declared.shared.Out.{Out}
use Rattle.nb_lasting.specs.declared.shared.LaneView.{LaneView}
use Rattle.nb_lasting.specs.declared.shared.Opened.{Opened}

-- ---- logs in views
--
-- A view is a struct of the code, in which a log stands as events that leave it.

-- an entry as an event, and a log as events
abbrev pub as_event : Entry → Event
as_event entry = Read entry.seat entry.call entry.reply

abbrev pub as_events : List Entry → List Event
as_events = map as_event

-- What a map went on from (`EpochOf`), as events.
pub record EpochIn : Type 0 where
  pub filled : List Event
  pub past : List Event
  pub replayed : IsReplayed (log_of past)
  pub same : map_of_log (log_of filled) ≡ map_of_log (log_of past)

-- it knows this map and this epoch
pub record IsOfMap (m : MapOf) (e : EpochIn) (v : LaneView) : Type 0 where
  pub map : v.map ≡ m
  pub filled : v.filled ≡ e.filled
  pub past : v.past ≡ e.past

-- This is the one log that the seat knows, of a map that was filled by this log, and went on from
-- that.
pub record KnowsIn (filled past : List Event) (seat : SeatOf) (whole : List Event) : Type 0 where
  pub later : List Entry
  pub here : log seat ≡ later ++ log_of filled
  pub is : log_of whole ≡ later ++ log_of past
  pub replayed : IsReplayed (log_of whole)

-- the one log has gone on from this log to that one, by no call of the lane
abbrev pub IsCurrent : (lane : ℕ) → (seen whole : List Event) → Type 0
IsCurrent lane seen whole = HasGoneOnBy lane (log_of seen) (log_of whole) []

-- the call is one of the guests', of whom there are so many
abbrev pub IsOfGuest : ℕ → Entry → Type 0
IsOfGuest n entry = entry.seat < n

-- The map has a seat for each of so many lanes, and what it went on from has their calls alone.
pub record FitsLanes (n : ℕ) (v : LaneView) : Type 0 where
  pub fits : v.map.chain.shape.seats ≡ n
  pub made : All (IsOfGuest n) (log_of v.past)

-- the handle is the lane's, of this map
pub record IsLane (m : MapOf) (lane : ℕ) (handle : HandleOf) : Type 0 where
  pub map : handle.map ≡ m
  pub number : handle.seat.chain.number ≡ lane
  pub alone : handle.reserve ≡ []

-- ---- who has which handle

-- The word of a lane: each eighth, so that no two lie in one line of a cache.
abbrev pub word_of : ℕ → ℕ
word_of lane = 8 * lane

abbrev pub LaneMoment : Type 0
LaneMoment = State (Option HandleOf) LaneView

-- how often a lane is out, by this list; by all views; and by the table's slot
abbrev pub times_out : ℕ → List Out → ℕ
times_out i [] = 0
times_out i (out ∷ outs) = if i == out.lane then 1 + times_out i outs else times_out i outs

abbrev pub holders : ℕ → List LaneView → ℕ
holders i [] = 0
holders i (v ∷ views) = times_out i v.outs + holders i views

abbrev pub absent : maths.Option (maths.Option (Option HandleOf)) → ℕ
absent (some none) = 1
absent (some (some y)) = 0
absent none = 0

abbrev pub Has : Out → List Out → Type 0
Has out [] = ⊥
Has out (o ∷ outs) = (o ≡ out) ⊎ Has out outs

-- ---- the rule

-- There is one map, with its epoch, in which are the lanes' calls alone, and in each lane a log is
-- current: the one log that the handle knows which is at home there, or that it knew when it was
-- taken. It goes on from what the lane's guest has seen, by no call of the guest. Lanes have guests
-- up to a number, which one token knows that makes more of them; where there is no guest yet,
-- nothing has been seen. The map has slots for as many keys as it was opened for, and no account
-- names more.
pub record IsOneLog (p : Opened) (s : LaneMoment) : Type 0 where
  pub shared : MapOf
  pub epoch : EpochIn
  pub current : ℕ → List Event
  pub seen : ℕ → List Event
  pub dealt : ℕ
  pub fits : shared.chain.shape.seats ≡ p.seats
  pub room : HasSlots p.keys shared.chain.shape
  pub asked : (id : ℕ) (v : LaneView) → get_elem? s.views id ≡ some v → v.account.keys ≤ p.keys
  pub made : All (IsOfGuest p.seats) (log_of epoch.past)
  pub count : length s.homes ≡ p.seats
  pub long : length s.words ≡ 8 * p.seats
  pub homes :
      (i : ℕ) (y : Option HandleOf) → get_elem? s.homes i ≡ some (some y)
      → (handle : HandleOf) × (y ≡ Some handle) × IsLane shared i handle
      × KnowsIn epoch.filled epoch.past handle.seat (current i)
  pub words :
      (i : ℕ) → i < p.seats → slice_index s.words (word_of i) ≡ 0
      → absent (get_elem? s.homes i) ≡ 0
  pub once : (i : ℕ) → holders i s.views ≡ absent (get_elem? s.homes i)
  pub held :
      (id : ℕ) (v : LaneView) → get_elem? s.views id ≡ some v → v.outs ≢ [] → IsOfMap shared epoch v
  pub knew :
      (id : ℕ) (v : LaneView) (out : Out) → get_elem? s.views id ≡ some v → Has out v.outs
      → current out.lane ≡ out.knew
  pub goes : (i : ℕ) → i < p.seats → IsCurrent i (seen i) (current i)
  pub guests :
      (id : ℕ) (v : LaneView) (i : ℕ) → get_elem? s.views id ≡ some v → v.guest ≡ Some i
      → (i < dealt) × (v.seen ≡ seen i)
  pub one_guest :
      (id other : ℕ) (v u : LaneView) (i : ℕ) → get_elem? s.views id ≡ some v
      → get_elem? s.views other ≡ some u → v.guest ≡ Some i → u.guest ≡ Some i
      → id ≡ other
  pub fresh : (i : ℕ) → dealt ≤ i → seen i ≡ []
  pub few : dealt ≤ p.seats
  pub dealer :
      (id : ℕ) (v : LaneView) (d : ℕ) → get_elem? s.views id ≡ some v → v.dealer ≡ Some d
      → d ≡ dealt
  pub one_dealer :
      (id other : ℕ) (v u : LaneView) (d d' : ℕ) → get_elem? s.views id ≡ some v
      → get_elem? s.views other ≡ some u → v.dealer ≡ Some d → u.dealer ≡ Some d'
      → id ≡ other

-- ---- the steps

-- the handle of a lane that is taken out, and what it knows
pub record HasTaken (lane : ℕ) (before after : Me (Option HandleOf) LaneView) : Type 0 where
  pub handle : HandleOf
  pub knew : List Event
  pub outs : after.0.outs ≡ record { lane = lane; knew = knew } ∷ before.0.outs
  pub slots : after.1 ≡ (lane, Some handle) ∷ before.1
  pub one : IsLane after.0.map lane handle
  pub knows : KnowsIn after.0.filled after.0.past handle.seat knew
  -- what its map went on from
  pub epoch : EpochIn
  pub begun : (after.0.filled ≡ epoch.filled) × (after.0.past ≡ epoch.past)
  pub guest :
      (after.0.guest ≡ before.0.guest) × (after.0.seen ≡ before.0.seen)
      × (after.0.dealer ≡ before.0.dealer)
  -- a guest that takes its own lane's handle has seen what it knows
  pub mine : before.0.guest ≡ Some lane → IsCurrent lane before.0.seen knew
  -- it is in the account, and its map has slots for as many keys as that says
  pub account : after.0.account ≡ took handle before.0.account
  pub room : HasSlots before.0.account.keys after.0.map.chain.shape
  -- who had others still has them, of the same map
  pub same :
      before.0.outs ≢ []
      → (after.0.map ≡ before.0.map) × (after.0.filled ≡ before.0.filled)
      × (after.0.past ≡ before.0.past)

abbrev pub Takes :
    Step (Option HandleOf) → (before : Me (Option HandleOf) LaneView) → (found : ℕ)
    → (after : Me (Option HandleOf) LaneView) → Type 0
Takes step before found after =
    (found ≡ 0 → (lane : ℕ) → step.word ≡ word_of lane
    → HasTaken lane before after × FitsLanes step.slots after.0)
    × (found ≢ 0 → after ≡ before)

-- a look at a lane's word, which may mark it: the token is as before
abbrev pub Marks :
    Step (Option HandleOf) → (before : Me (Option HandleOf) LaneView) → (found : ℕ)
    → (after : Me (Option HandleOf) LaneView) → Type 0
Marks step before found after = after ≡ before

-- the token has this lane's handle, taken last, which has gone on to this log
pub record Holds (lane : ℕ) (knew whole : List Event) (handle : HandleOf)
    (me : Me (Option HandleOf) LaneView) : Type 0 where
  pub outs : List Out
  pub view : me.0.outs ≡ record { lane = lane; knew = knew } ∷ outs
  pub slot : me.1 ≡ (lane, Some handle) ∷ rest me.1
  pub one : IsLane me.0.map lane handle
  pub knows : KnowsIn me.0.filled me.0.past handle.seat whole

-- what it knows when it has given that back, and has seen this log, with this account
abbrev pub given : LaneView → List Out → (seen : List Event) → Account → LaneView
given v outs seen account = record v { outs = outs; seen = seen; account = account }

-- the lanes are out, and what they knew is this log now
abbrev pub all_knew : List Event → List Out → List Out
all_knew whole [] = []
all_knew whole (out ∷ outs) = record { lane = out.lane; knew = whole } ∷ all_knew whole outs

-- what it knows when it has given back the last lane's handle, of a new map, with this account
abbrev pub given_anew :
    LaneView → List Out → MapOf → (filled past : List Event) → Account → LaneView
given_anew v outs m filled past account = record v {
  outs = all_knew past outs;
  map = m;
  filled = filled;
  past = past;
  account = account;
}

-- the map is the one that was known, or has slots for so many keys
abbrev pub IsKnownOrHasSlots : (keys : ℕ) → (known m : MapOf) → Type 0
IsKnownOrHasSlots keys known m = (m ≡ known) ⊎ HasSlots keys m.chain.shape

-- The token has all lanes' handles, the last taken of which is given back, of a new map. That one
-- knows the log of all calls, which goes on from what each lane's handle knew, by no call of it.
pub record HoldsAnew (p : Opened) (lane : ℕ) (knew : List Event) (handle : HandleOf) (next : EpochIn)
    (me : Me (Option HandleOf) LaneView) : Type 0 where
  pub outs : List Out
  pub view : me.0.outs ≡ record { lane = lane; knew = knew } ∷ outs
  pub slot : me.1 ≡ (lane, Some handle) ∷ rest me.1
  pub number : handle.seat.chain.number ≡ lane
  pub alone : handle.reserve ≡ []
  pub fits : handle.map.chain.shape.seats ≡ p.seats
  pub room : IsKnownOrHasSlots p.keys me.0.map handle.map
  pub made : All (IsOfGuest p.seats) (log_of next.past)
  pub knows : KnowsIn next.filled next.past handle.seat next.past
  pub all : (i : ℕ) → i < p.seats → 1 ≤ times_out i me.0.outs
  pub met :
      (out : Out) → Has out me.0.outs
      → HasGoneOnBy out.lane (log_of out.knew) (log_of next.past) []

-- ---- what a step tells

-- the one log that a seat knows, of a map that was filled by this log and went on from that
abbrev pub known_of : (filled past : List Event) → SeatOf → List Event
known_of filled past seat =
    as_events (take (length (log seat) - length (log_of filled)) (log seat) ++ log_of past)

-- the same of the handle that was taken last
abbrev pub known_in : LaneView → List (ℕ × Option HandleOf) → List Event
known_in v [] = v.seen
known_in v ((lane, None) ∷ slots) = v.seen
known_in v ((lane, Some handle) ∷ slots) = known_of v.filled v.past handle.seat

-- the map of that handle
abbrev pub map_in : MapOf → List (ℕ × Option HandleOf) → MapOf
map_in m [] = m
map_in m ((lane, None) ∷ slots) = m
map_in m ((lane, Some handle) ∷ slots) = handle.map

-- the log of that handle
abbrev pub log_in : List (ℕ × Option HandleOf) → List Entry
log_in [] = []
log_in ((lane, None) ∷ slots) = []
log_in ((lane, Some handle) ∷ slots) = log handle.seat

-- the account of a guest that gave that handle back
abbrev pub account_in : List (ℕ × Option HandleOf) → Account → Account
account_in [] account = account
account_in ((lane, None) ∷ slots) account = account
account_in ((lane, Some handle) ∷ slots) account = gave handle account

-- the account of a token that gave that handle back first, of a new map
abbrev pub begun_in : List (ℕ × Option HandleOf) → Account → Account
begun_in [] account = account
begun_in ((lane, None) ∷ slots) account = account
begun_in ((lane, Some handle) ∷ slots) account = began handle account

-- the lanes that are out but for the one taken last
abbrev pub rest_outs : List Out → List Out
rest_outs [] = []
rest_outs (out ∷ outs) = outs

-- a guest gives its handle back, and has seen all that this knows
abbrev pub HasGiven : (before after : Me (Option HandleOf) LaneView) → Type 0
HasGiven before after =
    (after.0
    ≡ given before.0 (rest_outs before.0.outs) (known_in before.0 before.1)
    (account_in before.1 before.0.account))
    × (after.1 ≡ rest before.1)

abbrev pub Gives :
    Step (Option HandleOf) → (before : Me (Option HandleOf) LaneView) → (found : ℕ)
    → (after : Me (Option HandleOf) LaneView) → Type 0
Gives step before found after = HasGiven before after

-- a handle of the same map is given back after a renewal
abbrev pub HasDealt : (before after : Me (Option HandleOf) LaneView) → Type 0
HasDealt before after =
    (after.0 ≡ given before.0 (rest_outs before.0.outs) before.0.seen before.0.account)
    × (after.1 ≡ rest before.1)

abbrev pub Deals :
    Step (Option HandleOf) → (before : Me (Option HandleOf) LaneView) → (found : ℕ)
    → (after : Me (Option HandleOf) LaneView) → Type 0
Deals step before found after = HasDealt before after

-- the first handle of a new map is given back; the next epoch goes on from what each lane's handle
-- knew
abbrev pub HasBegunAnew : (before after : Me (Option HandleOf) LaneView) → Type 0
HasBegunAnew before after =
    (next : EpochIn) × (log_in before.1 ≡ log_of next.filled)
    × ((out : Out) → Has out before.0.outs
    → HasGoneOnBy out.lane (log_of out.knew) (log_of next.past) [])
    × (after.0
    ≡ given_anew before.0 (rest_outs before.0.outs) (map_in before.0.map before.1) next.filled
    next.past (begun_in before.1 before.0.account))
    × (after.1 ≡ rest before.1)

abbrev pub Renews :
    Step (Option HandleOf) → (before : Me (Option HandleOf) LaneView) → (found : ℕ)
    → (after : Me (Option HandleOf) LaneView) → Type 0
Renews step before found after = HasBegunAnew before after

-- ---- the first token, and others

abbrev pub no_id : TableId
no_id = record {
  words = 0;
  slots = 0;
  views_name = 0;
  atom = 0;
  block = 0;
  offset = 0;
  slot_names = [];
}

abbrev pub no_map : MapOf
no_map = record {
  chain = record {
    id = no_id;
    shape = record { exponents = []; seats = 0; stripes = 0; reprobes = 0; chunk = 0 };
  };
  counter = record { id = no_id; stripes = 0; seats = 0 };
}

-- the first token has no lane, and makes the guests
abbrev pub first_lane_view : Opened → LaneView
first_lane_view p = record {
  guest = None;
  dealer = Some 0;
  seen = [];
  map = no_map;
  filled = [];
  past = [];
  outs = [];
  account = no_account p.keys;
}

-- it makes one, which has the next lane
abbrev pub next_dealer : Option ℕ → Option ℕ
next_dealer None = None
next_dealer (Some d) = Some (suc d)

abbrev pub dealer_left : LaneView → LaneView
dealer_left v = record v { dealer = next_dealer v.dealer }

abbrev pub new_guest : LaneView → LaneView
new_guest v = record {
  guest = v.dealer;
  dealer = None;
  seen = [];
  map = v.map;
  filled = [];
  past = [];
  outs = [];
  account = no_account v.account.keys;
}

-- ---- a token takes the place of another

-- it is the guest that the other was
abbrev pub as_guest : (v w : LaneView) → LaneView
as_guest v w = record v { guest = w.guest; seen = w.seen }

-- and the other is nobody
abbrev pub nobody : LaneView
nobody = record {
  guest = None;
  dealer = None;
  seen = [];
  map = no_map;
  filled = [];
  past = [];
  outs = [];
  account = no_account 0;
}

-- ---- a guest's place goes on to another token

-- the token is no guest any more
abbrev pub guest_left : LaneView → LaneView
guest_left v = record v { guest = None }

-- one that has nothing but the guest's place
abbrev pub guest_alone : LaneView → LaneView
guest_alone v = record {
  guest = v.guest;
  dealer = None;
  seen = v.seen;
  map = v.map;
  filled = [];
  past = [];
  outs = [];
  account = no_account v.account.keys;
}
