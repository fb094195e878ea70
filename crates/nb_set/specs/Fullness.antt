-- How full a set is.
use Rattle.std.specs.Prelude.{[]}
use Rattle.nb_map.specs.Fullness as of_map
use Rattle.nb_map.specs.declared.occupancy.Occupancy.{Occupancy}
use Rattle.nb_set.specs.Sets.{HasLogged, IsMine, SeatOf, SetOf}
use Rattle.nb_set.specs.Walks.{IsLater}

-- what a look at how full the set is promises
pub record HasSampled (set : SetOf) (before after : SeatOf) (found : Occupancy) : Type 0 where
  -- what the map promises that the set is kept in: which slots were looked at and counted, and
  -- which steps were made
  pub promised : of_map.HasSampled set.map before after found
  -- it is no call of the set's log
  pub logged : HasLogged before after []
  -- the seat has forgotten nothing, so its walks go on, and is still the set's
  pub later : IsLater before after
  pub own : IsMine set after
