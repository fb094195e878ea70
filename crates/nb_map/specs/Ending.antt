-- What is left of a map when all its seats are gathered.
use Rattle.std.specs.Prelude.{ℕ, List, ◌≡◌, [], ◌++◌, ◌<◌, ◌==◌, pos, All, count_by, length, map}
use Rattle.nb_core.specs.Log.{Entry, log_of, Numbers, map_of_log, calls_of, IsReplayed}
use Rattle.nb_core.specs.Meaning.{net_of_seats}
use Rattle.nb_core.specs.Plans.{Plan}
use Rattle.nb_count.specs.Counts.{total_of}
use Rattle.nb_table.specs.Left.{ClosedOf, IsLeft}
use Rattle.nb_table.specs.Views.{HasSeen}
use Rattle.nb_map.specs.Logs.{log}
use Rattle.nb_map.specs.Maps.{SeatOf}

-- an ended map: what is left of its chain of tables, and what its seats counted
pub record EndedOf : Type 0 where
  pub tables : ClosedOf
  pub size : ℕ

-- the log of all calls that were ever made
abbrev pub log_left : EndedOf → List Entry
log_left ended = log_of ended.tables.history

-- the map that they left
abbrev pub map_left : EndedOf → Numbers
map_left ended = map_of_log (log_left ended)

-- the seat's log is a beginning of this one, which has no further call of the seat's
pub record HasAll (whole : List Entry) (seat : SeatOf) : Type 0 where
  pub later : List Entry
  pub is : whole ≡ later ++ log seat
  pub others : calls_of seat.chain.number later ≡ []

-- There is one log of all calls, and it is replayed. Each seat's log is a beginning of it with all
-- the seat's calls; each number is one seat's, and each call one seat's. The size is what the seats
-- have counted in all, and that is what their calls did to the number of keys.
pub record EndedWith (seats : List SeatOf) (ended : EndedOf) : Type 0 where
  pub replayed : IsReplayed (log_left ended)
  pub logs : All (HasAll (log_left ended)) seats
  pub once : (n : ℕ) → n < length seats → count_by (λ seat. seat.chain.number == n) seats ≡ 1
  pub made : All (λ entry. entry.seat < length seats) (log_left ended)
  pub counted : pos ended.size ≡ total_of (map (λ seat. seat.count) seats)
  pub size : pos ended.size ≡ net_of_seats (log_left ended) (length seats)

-- what is left of the tables: their shape, and the history that left them, of which each seat has
-- seen a beginning with all its own events
pub record HasTablesLeft (p : Plan) (seats : List SeatOf) (ended : EndedOf) : Type 0 where
  pub shape : ended.tables.shape ≡ p
  pub left : IsLeft ended.tables
  pub seen : All (λ seat. HasSeen ended.tables.history seat.chain.number seat.chain.seen) seats
