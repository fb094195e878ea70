-- How a reserve holds its seats.
use Rattle.std.specs.Prelude.{◌≡◌, [], ◌∷◌, List, Option, None, Some, map}
use Rattle.nb_map.specs.Maps.{SeatOf}
use Rattle.nb_map.specs.declared.handle.reserve.Reserve.TheInside as reserve

-- the seats that are in these nodes
abbrev pub seats_in : List (Option SeatOf) → List SeatOf
seats_in [] = []
seats_in (None ∷ nodes) = seats_in nodes
seats_in (Some seat ∷ nodes) = seat ∷ seats_in nodes

-- the first node is empty, and each other one has a seat
abbrev pub IsReserve : reserve.Inside → Type 0
IsReserve c = c.nodes ≡ None ∷ map Some (seats_in c.nodes)
