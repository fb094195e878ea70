-- What a map's seats know once they are settled, while the map goes on.
use Rattle.std.specs.FinMap as numbers
use Rattle.std.specs.List.{AllZip}
use Rattle.std.specs.Prelude.{◌≡◌, ℕ, List, [], length, map}
use Rattle.nb_core.specs.Log.{Entry, log_of, map_of_log}
use Rattle.nb_core.specs.Plans.{Plan}
use Rattle.nb_core.specs.declared.events.Event.{Event}
use Rattle.nb_table.specs.Chains.{Grown}
use Rattle.nb_table.specs.Settling.{Settled, at_rest}
use Rattle.nb_map.specs.Ending.{EndedOf, EndedWith, HasTablesLeft}
use Rattle.nb_map.specs.Logs.{HasLogged, log}
use Rattle.nb_map.specs.Maps.{IsMine, MapOf, SeatOf}

-- what would be left of a map that has this history and so many keys, if it ended
abbrev pub as_left : Plan → List Event → ℕ → EndedOf
as_left p history size = record { tables = at_rest p history; size = size }

-- what settling promises of each seat
pub record HasCaughtUp (m : MapOf) (whole : List Entry) (before after : SeatOf) : Type 0 where
  -- its log is now the one log of all calls
  pub knows : log after ≡ whole
  -- it is no call of the log
  pub logged : HasLogged before after []
  -- it makes no step on the tables that is counted as the seat's, and none on the counter
  pub grows : Grown m.chain.shape before.chain after.chain [] 0
  pub count : after.count ≡ before.count
  pub own : IsMine m after

-- All seats of a map are settled, and it has so many keys. They know what they would know if they
-- had finished the map, and the map goes on.
pub record HaveSettled (m : MapOf) (before after : List SeatOf) (size : ℕ) : Type 0 where
  -- there is one history of all that was done to the tables, and each seat has seen it now
  pub tables :
      Settled m.chain.shape (map (λ seat. seat.chain) before) (map (λ seat. seat.chain) after)
  -- its log is the log of all calls: it goes on from each seat's log, and no call is missing
  pub ended : EndedWith before (as_left m.chain.shape tables.history size)
  pub left : HasTablesLeft m.chain.shape before (as_left m.chain.shape tables.history size)
  -- the size is exact: so many keys has the map that these calls leave
  pub keys : size ≡ length (numbers.entries (map_of_log (log_of tables.history)))
  -- and each seat's log is this log now
  pub each : AllZip (HasCaughtUp m (log_of tables.history)) before after

-- Where all seats settle twice, and no call was made between, the second time changes nothing.
abbrev pub SettledTwice : Type 0
SettledTwice =
    (m : MapOf) (before after again : List SeatOf) (size size' : ℕ) → HaveSettled m before after size
    → HaveSettled m after again size' → (again ≡ after) × (size' ≡ size)

-- Where all seats settle and then finish the map, and no call was made between, what is left is what
-- they knew: the history that they settled on, with its log, and the settled size.
abbrev pub SettledIsEnded : Type 0
SettledIsEnded =
    (m : MapOf) (before after : List SeatOf) (size : ℕ) (ended : EndedOf)
    → (settled : HaveSettled m before after size) → length after ≡ m.chain.shape.seats
    → EndedWith after ended → HasTablesLeft m.chain.shape after ended
    → ended ≡ as_left m.chain.shape settled.tables.history size
