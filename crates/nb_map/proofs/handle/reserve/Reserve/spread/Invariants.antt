use Rattle.std.proofs.Common.{◌≡◌, ◌++◌, ◌∷◌, List, Option, None, Some, length, map}
use Rattle.std.specs.Vec.Iter.{into_iter_items}
use Rattle.nb_core.proofs.Seating.{AreMoved}
use Rattle.nb_map.specs.Maps.{SeatOf}
use Rattle.nb_map.proofs.handle.reserve.Reserve.spread.Given as goal

abbrev pub invariant-loop-seat : goal.invariant-loop-seat
invariant-loop-seat l =
    (goal.iterator-loop-seat).can_next l.seat-iterator
    × (goal.iterator-loop-seat).is_finite l.seat-iterator
    × (front : List (Option SeatOf)) × (moved : List (Option SeatOf))
    × (l.nodes ≡ front ++ None ∷ moved) × (length front ≡ length (into_iter_items l.seat-iterator))
    × AreMoved Some (map Some (into_iter_items l.initial.seat-iterator)) moved
    (into_iter_items l.seat-iterator)
