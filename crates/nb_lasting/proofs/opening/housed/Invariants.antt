use Rattle.std.proofs.Common.{◌≤◌, map, vec_capacity, Some}
use Rattle.std.specs.Vec.Iter.{into_iter_items}
use Rattle.std.specs.Prelude.{length}
use Rattle.nb_core.proofs.Seating.{AreMoved}
use Rattle.nb_lasting.proofs.opening.housed.Given as goal

abbrev pub invariant-loop-handle : goal.invariant-loop-handle
invariant-loop-handle l =
    (goal.iterator-loop-handle).can_next l.handle-iterator
    × (goal.iterator-loop-handle).is_finite l.handle-iterator
    × AreMoved Some (map Some l.fn.handles.items) l.slots.items (into_iter_items l.handle-iterator)
    × (length l.fn.handles.items ≤ vec_capacity l.slots)
