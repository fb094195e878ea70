-- Calls of a map of numbers by what has a seat of it: a seat that is told with its map, or a handle.
-- Both are seen as a handle.
use Rattle.boxcar.specs.Table.{Shelves}
use Rattle.nb_map.specs.Handles.{HandleOf, KeepsRest}
use Rattle.nb_map.specs.Maps.{IsMine, MapOf, SeatOf}
use Rattle.nb_long.specs.Typed.{LongMapOf}

-- its seat is a seat of its map
abbrev pub IsSeated : HandleOf → Type 0
IsSeated handle = IsMine handle.map handle.seat

-- A call has done this to its map and its seat, and has left the rest.
pub record HasCalled (Done : MapOf → SeatOf → SeatOf → Type 0) (before after : HandleOf) :
    Type 0 where
  pub done : Done before.map before.seat after.seat
  pub rest : KeepsRest before after

-- The same of the typed map that has this store.
abbrev pub HasCalledOver :
    Shelves → (LongMapOf → SeatOf → SeatOf → Type 0) → (before after : HandleOf) → Type 0
HasCalledOver store Done = HasCalled (λ m. Done (record { map = m; store = store }))
