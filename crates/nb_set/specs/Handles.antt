-- How contracts see a handle of a set.
use Rattle.std.specs.List.{flat_map}
use Rattle.std.specs.Prelude.{◌≡◌, [], ◌∷◌, List, length}
use Rattle.nb_map.specs.Handles as handles
use Rattle.nb_set.specs.Sets.{SeatOf, SetOf, shape_of}
use Rattle.nb_set.specs.Walks.{WalkOf}

-- a handle: the set that it is of, its own seat, and the seats that it has in reserve
pub record HandleOf : Type 0 where
  pub set : SetOf
  pub seat : SeatOf
  pub reserve : List SeatOf

-- a handle of a map as one of the set
abbrev pub as_handle : handles.HandleOf → HandleOf
as_handle handle = record {
  set = record { map = handle.map };
  seat = handle.seat;
  reserve = handle.reserve;
}

-- all seats that it holds, its own first
abbrev pub seats_of : HandleOf → List SeatOf
seats_of handle = handle.seat ∷ handle.reserve

-- it holds all seats of its set
abbrev pub IsWhole : HandleOf → Type 0
IsWhole handle = length (seats_of handle) ≡ (shape_of handle.set).seats

-- the set's handle with this seat alone
abbrev pub handle_on : SetOf → SeatOf → HandleOf
handle_on set seat = record { set = set; seat = seat; reserve = [] }

-- it is a handle of the set that it was of
abbrev pub IsSameSet : (before after : HandleOf) → Type 0
IsSameSet before after = after.set ≡ before.set

-- what each call leaves as it was: the set that the handle is of, and the seats that it has in
-- reserve
pub record KeepsRest (before after : HandleOf) : Type 0 where
  pub set : IsSameSet before after
  pub reserve : after.reserve ≡ before.reserve

-- all seats that these handles hold, one handle's after another's
abbrev pub all_seats : List HandleOf → List SeatOf
all_seats handles = flat_map seats_of handles

-- a walk by a handle: the handle, and the walk
pub record HandleWalkOf : Type 0 where
  pub handle : HandleOf
  pub walk : WalkOf

-- a walk by a handle of a map as one of the set
abbrev pub as_walk : handles.HandleWalkOf → HandleWalkOf
as_walk walk = record { handle = as_handle walk.handle; walk = record { map = walk.walk } }
