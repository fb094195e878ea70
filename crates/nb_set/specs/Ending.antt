-- What is left of a set when all its seats are gathered.
use Rattle.std.specs.Prelude.{◌≡◌, ◌<◌, ◌==◌, ℕ, List, [], ◌++◌, All, count_by, length}
use Rattle.nb_core.specs.Plans.{Plan}
use Rattle.nb_map.specs.Ending as of_map
use Rattle.nb_set.specs.Log.{Entry, IsReplayed, Keys, calls_of, set_of_log}
use Rattle.nb_set.specs.OfMap.{log_as}
use Rattle.nb_set.specs.Sets.{SeatOf, log, seat_number}

-- an ended set: the ended map that it was kept in
pub record EndedOf : Type 0 where
  pub map : of_map.EndedOf

-- the log of all calls that were ever made
abbrev pub log_left : EndedOf → List Entry
log_left ended = log_as (of_map.log_left ended.map)

-- the set that they left
abbrev pub set_left : EndedOf → Keys
set_left ended = set_of_log (log_left ended)

-- the seat's log is a beginning of this one, which has no further call of the seat's
pub record HasAll (whole : List Entry) (seat : SeatOf) : Type 0 where
  pub later : List Entry
  pub is : whole ≡ later ++ log seat
  pub others : calls_of (seat_number seat) later ≡ []

-- There is one log of all calls, and it is replayed. Each seat's log is a beginning of it with all
-- the seat's calls; each number is one seat's, and each call one seat's.
pub record EndedWith (seats : List SeatOf) (ended : EndedOf) : Type 0 where
  pub replayed : IsReplayed (log_left ended)
  pub logs : All (HasAll (log_left ended)) seats
  pub once : (n : ℕ) → n < length seats → count_by (λ seat. seat_number seat == n) seats ≡ 1
  pub made : All (λ entry. entry.seat < length seats) (log_left ended)

-- what is left of the tables: their shape, and the history that left them, of which each seat has
-- seen a beginning with all its own events
abbrev pub HasTablesLeft : Plan → List SeatOf → EndedOf → Type 0
HasTablesLeft p seats ended = of_map.HasTablesLeft p seats ended.map
