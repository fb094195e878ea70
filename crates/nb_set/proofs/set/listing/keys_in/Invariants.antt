use Rattle.std.proofs.Common.{◌≤◌, ℕ, length, map, vec_capacity}
use Rattle.std.specs.Vec.Iter.{into_iter_items}
use Rattle.nb_core.proofs.Seating.{AreMoved}
use Rattle.nb_set.proofs.set.listing.keys_in.Given as goal

abbrev pub invariant-loop-key : goal.invariant-loop-key
invariant-loop-key l =
    (goal.iterator-loop-key).can_next l.key-iterator
    × (goal.iterator-loop-key).is_finite l.key-iterator
    × AreMoved (λ (entry : ℕ × ℕ). entry.0)
    (map (λ entry. entry.0) (into_iter_items l.initial.key-iterator)) l.keys.items
    (into_iter_items l.key-iterator)
    × (length (into_iter_items l.initial.key-iterator) ≤ vec_capacity l.keys)
