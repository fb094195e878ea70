-- How contracts see a set and its seats, and what calls of the set do, told by the log of all
-- calls. What each call promises is in Promises.antt.
use Rattle.std.specs.Prelude.{◌≡◌, ◌≢◌, ℕ, ◌+◌, Bool, List, [], ◌∷◌, ◌++◌, map, All}
use Rattle.std.specs.List.{range_with_len}
use Rattle.nb_core.specs.History.{seat_of_event}
use Rattle.nb_core.specs.Meaning.{IsCrowded}
use Rattle.nb_core.specs.Plans.{Plan}
use Rattle.nb_core.specs.Tables.{tables_at}
use Rattle.nb_core.specs.declared.events.Event.{Event}
use Rattle.nb_map.specs.Logs as of_map
use Rattle.nb_map.specs.Maps.{MapOf}
use Rattle.nb_map.specs.Maps as maps
-- a set's seat is a seat of that map
pub use Rattle.nb_map.specs.Maps.{SeatOf}
use Rattle.nb_map.specs.Progress as progress
use Rattle.nb_set.specs.Log.{Call, Entry, IsReplayed, calls_of}
use Rattle.nb_set.specs.OfMap.{call_for, log_as}

-- a set: the map that it is kept in
pub record SetOf : Type 0 where
  pub map : MapOf

-- the shape of its tables
abbrev pub shape_of : SetOf → Plan
shape_of set = set.map.chain.shape

-- the number of the seat
abbrev pub seat_number : SeatOf → ℕ
seat_number seat = seat.chain.number

-- how many steps it has made on the tables
abbrev pub steps_of : SeatOf → ℕ
steps_of seat = seat.chain.steps

-- how many tables the seat knows to be complete, from the first one on
abbrev pub generation_of : SetOf → SeatOf → ℕ
generation_of set seat = (tables_at (shape_of set) seat.chain.seen).top

-- the log that a seat knows: the calls of all seats until its last step
abbrev pub log : SeatOf → List Entry
log seat = log_as (of_map.log seat)

-- ---- what a call does

-- The log has gone on. All of it is replayed, and of what is new just these calls are the seat's.
pub record HasLogged (before after : SeatOf) (made : List (Call × Bool)) : Type 0 where
  pub number : seat_number after ≡ seat_number before
  pub later : List Entry
  pub grown : log after ≡ later ++ log before
  pub replayed : IsReplayed (log after)
  pub own : calls_of (seat_number before) later ≡ made

-- the seat has made this one call, with this reply
abbrev pub HasReplied : Call → (before after : SeatOf) → Bool → Type 0
HasReplied call before after reply = HasLogged before after ((call, reply) ∷ [])

-- the seat has made no call, and other keys have all slots of the last table, so that there is none
-- for this one
abbrev pub HasNoRoom : SetOf → ℕ → (before after : SeatOf) → Type 0
HasNoRoom set k before after =
    HasLogged before after [] × IsCrowded (shape_of set) after.chain.seen k

-- ---- seats

-- the seat is one of this set's
abbrev pub IsMine : SetOf → SeatOf → Type 0
IsMine set seat = maps.IsMine set.map seat

-- the set is of this shape, which is a plan, and its counter has as many stripes and seats
abbrev pub IsMadeFor : SetOf → Plan → Type 0
IsMadeFor set p = maps.IsMadeFor set.map p

-- all these seats are this set's
abbrev pub AreMine : SetOf → List SeatOf → Type 0
AreMine set seats = All (IsMine set) seats

-- a set's seat that has seen nothing
abbrev pub new_seat : SetOf → ℕ → SeatOf
new_seat set number = maps.new_seat set.map number

-- so many of them, numbered by their places
abbrev pub new_seats : SetOf → ℕ → List SeatOf
new_seats set count = map (new_seat set) (range_with_len 0 count)

-- ---- how long a call works

-- it has made at most so many steps on the tables, and one on the counter where it changed the size
abbrev pub HasWorked : SetOf → Call → (before after : SeatOf) → (most : ℕ) → Type 0
HasWorked set call before after most =
    maps.HasWorked set.map (call_for call) before after most

-- It is lock-free: only where other seats' writes of the key came first did it work for longer than
-- its tables say.
abbrev pub IsLockFree : SetOf → Call → (before after : SeatOf) → Type 0
IsLockFree set call before after =
    progress.IsNonBlocking set.map (call_for call) before after progress.Unlimited

-- A look at the key is short where it is at home: two steps in the table that the seat remembered;
-- and five in the top table, if the seat learns of no new one.
abbrev pub IsShortRead : SetOf → ℕ → (before after : SeatOf) → Type 0
IsShortRead set k before after =
    progress.IsShortRead (shape_of set) k before.chain after.chain

-- It is short where it is alone with its key at home in the table that the seat remembered: three
-- steps on the tables; and for an `add` whose seat didn't know the slot as the key's, five, while it
-- knows of no table above.
abbrev pub IsShortAtHome : SetOf → Call → (before after : SeatOf) → Type 0
IsShortAtHome set call before after =
    progress.IsShortAtHome (shape_of set) (call_for call) before.chain after.chain

-- The seat has looked once at which tables are complete, and done nothing more: what it has seen
-- anew are events of others, and it has counted nothing.
pub record HasLookedOnce (before after : SeatOf) : Type 0 where
  pub later : List Event
  pub seen : after.chain.seen ≡ later ++ before.chain.seen
  pub others : All (λ event. seat_of_event event ≢ seat_number before) later
  pub step : steps_of after ≡ steps_of before + 1
  pub count : after.count ≡ before.count
