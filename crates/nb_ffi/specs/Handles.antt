-- How contracts see what C has of a map's handle.
use Rattle.std.specs.Prelude.{◌≡◌, [], ◌∷◌, ◌++◌, Option, Some}
use Rattle.nb_core.specs.Plans.{Plan}
use Rattle.nb_map.specs.Handles.{HandleOf, IsWhole, handle_on, seats_of}
use Rattle.nb_map.specs.Logs.{HaveEmptyLogs}
use Rattle.nb_map.specs.Maps.{AreMine, IsMadeFor, new_seats}

-- it stands for a handle of a map
abbrev pub IsOpenHandle : Option HandleOf → Type 0
IsOpenHandle held = (handle : HandleOf) × (held ≡ Some handle)

-- it stands for a handle that has all seats of its map
abbrev pub HasAllSeats : Option HandleOf → Type 0
HasAllSeats held = (handle : HandleOf) × (held ≡ Some handle) × IsWhole handle

-- it did and does, and the handle has changed like this
pub record StaysOpen (before after : Option HandleOf) (Change : HandleOf → HandleOf → Type 0) :
    Type 0 where
  pub old : HandleOf
  pub new : HandleOf
  pub was : before ≡ Some old
  pub is : after ≡ Some new
  pub holds : Change old new

-- a handle of a new map of this shape, which has all its seats; no call was made before
pub record IsNew (p : Plan) (handle : HandleOf) : Type 0 where
  pub made : IsMadeFor handle.map p
  pub own : AreMine handle.map (seats_of handle)
  pub seats : seats_of handle ≡ new_seats handle.map p.seats
  pub logs : HaveEmptyLogs (seats_of handle)

-- a handle was split: another one of the same map has the last seat in reserve
pub record IsPartOf (before after part : HandleOf) : Type 0 where
  pub map : after.map ≡ before.map
  pub seat : after.seat ≡ before.seat
  pub reserve : before.reserve ≡ after.reserve ++ part.seat ∷ []
  pub other : part ≡ handle_on before.map part.seat
