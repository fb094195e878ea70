-- How contracts see a handle of a typed map.
use Rattle.std.specs.List.{flat_map}
use Rattle.std.specs.Prelude.{◌≡◌, [], ◌∷◌, List, length}
use Rattle.boxcar.specs.Table.{Shelves}
use Rattle.nb_map.specs.Handles as numbers
use Rattle.nb_map.specs.Maps.{SeatOf}
use Rattle.nb_long.specs.Typed.{LongMapOf}

-- a handle: the typed map that it is of, its own seat, and the seats that it has in reserve
pub record HandleOf : Type 0 where
  pub map : LongMapOf
  pub seat : SeatOf
  pub reserve : List SeatOf

-- a handle of a map of numbers, as one of the typed map that has this store
abbrev pub with_store : Shelves → numbers.HandleOf → HandleOf
with_store store handle = record {
  map = record { map = handle.map; store = store };
  seat = handle.seat;
  reserve = handle.reserve;
}

-- all seats that it holds, its own first
abbrev pub seats_of : HandleOf → List SeatOf
seats_of handle = handle.seat ∷ handle.reserve

-- it holds all seats of its map
abbrev pub IsWhole : HandleOf → Type 0
IsWhole handle = length (seats_of handle) ≡ handle.map.map.chain.shape.seats

-- the map's handle with this seat alone
abbrev pub handle_on : LongMapOf → SeatOf → HandleOf
handle_on m seat = record { map = m; seat = seat; reserve = [] }

-- the handle is of the map that it was of
abbrev pub IsSameMap : (before after : HandleOf) → Type 0
IsSameMap before after = after.map ≡ before.map

-- What each call leaves as it was: the map that the handle is of, and the seats that it has in
-- reserve. A function that takes a handle by `&mut` promises it, so that its callers can join the
-- handle with others and close it: it could put another handle in its place.
pub record KeepsRest (before after : HandleOf) : Type 0 where
  pub map : IsSameMap before after
  pub reserve : after.reserve ≡ before.reserve

-- all seats that they hold, one handle's after another's
abbrev pub all_seats : List HandleOf → List SeatOf
all_seats handles = flat_map seats_of handles
