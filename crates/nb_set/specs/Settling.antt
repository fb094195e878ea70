-- What a set's seats know once they are settled, while the set goes on.
use Rattle.std.specs.FinMap.{len}
use Rattle.std.specs.List.{AllZip}
use Rattle.std.specs.Prelude.{◌≡◌, ℕ, List, [], map}
use Rattle.nb_core.specs.Plans.{Plan}
use Rattle.nb_core.specs.declared.events.Event.{Event}
use Rattle.nb_map.specs.Settling as of_map
use Rattle.nb_table.specs.Chains.{Grown}
use Rattle.nb_table.specs.Settling.{Settled}
use Rattle.nb_set.specs.Ending.{EndedOf, EndedWith, HasTablesLeft, log_left, set_left}
use Rattle.nb_set.specs.Log.{Entry}
use Rattle.nb_set.specs.Sets.{HasLogged, IsMine, SeatOf, SetOf, log, shape_of}
use Rattle.nb_set.specs.Walks.{IsLater}

-- what would be left of a set that has this history and so many keys, if it ended
abbrev pub as_left : Plan → List Event → ℕ → EndedOf
as_left p history size = record { map = of_map.as_left p history size }

-- what settling promises of each seat
pub record HasCaughtUp (set : SetOf) (whole : List Entry) (before after : SeatOf) : Type 0 where
  -- its log is now the one log of all calls
  pub knows : log after ≡ whole
  -- it is no call of the log
  pub logged : HasLogged before after []
  -- it makes no step on the tables that is counted as the seat's, and none on the counter
  pub grows : Grown (shape_of set) before.chain after.chain [] 0
  pub count : after.count ≡ before.count
  -- the seat has forgotten nothing, so its walks go on, and is still the set's
  pub later : IsLater before after
  pub own : IsMine set after

-- All seats of a set are settled, and it has so many keys. They know what they would know if they
-- had finished the set, and the set goes on.
pub record HaveSettled (set : SetOf) (before after : List SeatOf) (size : ℕ) : Type 0 where
  -- there is one history of all that was done to the tables, and each seat has seen it now
  pub tables :
      Settled (shape_of set) (map (λ seat. seat.chain) before)
      (map (λ seat. seat.chain) after)
  -- its log is the log of all calls: it goes on from each seat's log, and no call is missing
  pub ended : EndedWith before (as_left (shape_of set) tables.history size)
  pub left : HasTablesLeft (shape_of set) before (as_left (shape_of set) tables.history size)
  -- the size is exact: so many keys has the set that these calls leave
  pub keys : size ≡ len (set_left (as_left (shape_of set) tables.history size))
  -- and each seat's log is this log now
  pub each : AllZip (HasCaughtUp set (log_left (as_left (shape_of set) tables.history size)))
      before after
