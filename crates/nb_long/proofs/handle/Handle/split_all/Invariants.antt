use Rattle.std.proofs.Common.{◌≡◌, ◌+◌, ◌≤◌, All, length, map, vec_capacity}
use Rattle.std.specs.Arc.{arc_value}
use Rattle.std.specs.Vec.Iter.{into_iter_items}
use Rattle.nb_core.proofs.Seating.{AreMoved}
use Rattle.nb_long.specs.Handles.{handle_on, seats_of, with_store}
use Rattle.nb_long.proofs.handle.Handle.split_all.Given as goal

abbrev pub invariant-loop-map : goal.invariant-loop-map
invariant-loop-map g l =
    let whole = l.fn.self in
    (goal.iterator-loop-map g).can_next l.map-iterator
    × (goal.iterator-loop-map g).is_finite l.map-iterator
    × AreMoved (with_store whole.map.store) (map (handle_on whole.map) (seats_of whole))
    l.handles.items (into_iter_items l.map-iterator)
    × (length l.handles.items + length l.stores.items ≡ length (seats_of whole))
    × All (λ store. arc_value store ≡ whole.map.store) l.stores.items
    × (length (seats_of whole) ≤ vec_capacity l.handles)
