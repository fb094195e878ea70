use Rattle.std.proofs.Common.{◌≡◌, ◌+◌, ◌<◌, ◌++◌, ◌∷◌, List, Option, Some, length, map, vec_capacity}
use Rattle.nb_core.proofs.Seating.{AreMoved}
use Rattle.nb_map.specs.Maps.{SeatOf}
use Rattle.nb_map.proofs.handle.reserve.Reserve.gathered.Given as goal

abbrev pub invariant-loop : goal.invariant-loop
invariant-loop l =
    (left : List SeatOf) × (back : List (Option SeatOf)) × (l.nodes ≡ map Some left ++ back)
    × AreMoved (λ seat. seat) (l.fn.own ∷ l.fn.self) l.seats.items left
    × (length left + l.counter ≡ l.end) × (length l.nodes ≡ l.end) × (l.end ≡ length l.fn.self + 1)
    × (length l.fn.self < vec_capacity l.seats)
