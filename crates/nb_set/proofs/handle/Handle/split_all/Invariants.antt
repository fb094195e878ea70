use Rattle.std.proofs.Common.{◌≤◌, length, map, vec_capacity}
use Rattle.std.specs.Vec.Iter.{into_iter_items}
use Rattle.nb_core.proofs.Seating.{AreMoved}
use Rattle.nb_set.specs.Handles.{as_handle, handle_on, seats_of}
use Rattle.nb_set.proofs.handle.Handle.split_all.Given as goal

abbrev pub invariant-loop-map : goal.invariant-loop-map
invariant-loop-map l =
    (goal.iterator-loop-map).can_next l.map-iterator
    × (goal.iterator-loop-map).is_finite l.map-iterator
    × AreMoved as_handle (map (handle_on l.fn.self.set) (seats_of l.fn.self)) l.handles.items
    (into_iter_items l.map-iterator)
    × (length (seats_of l.fn.self) ≤ vec_capacity l.handles)
