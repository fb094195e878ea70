use Rattle.std.proofs.Common.{◌∷◌, None, Some, map}
use Rattle.std.specs.Vec.Iter.{into_iter_items}
use Rattle.nb_core.proofs.Seating.{AreMoved}
use Rattle.nb_map.proofs.handle.reserve.Reserve.new.Given as goal

abbrev pub invariant-loop-seat : goal.invariant-loop-seat
invariant-loop-seat l =
    (goal.iterator-loop-seat).can_next l.seat-iterator
    × (goal.iterator-loop-seat).is_finite l.seat-iterator
    × AreMoved Some (None ∷ map Some (into_iter_items l.initial.seat-iterator)) l.nodes (into_iter_items l.seat-iterator)
