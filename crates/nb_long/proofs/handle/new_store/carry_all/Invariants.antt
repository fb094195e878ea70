use Rattle.std.proofs.Common.{◌≡◌, ◌++◌, ◌≤◌, All, length, map, vec_capacity}
use Rattle.std.specs.List.{range_with_len}
use Rattle.std.specs.Vec.Iter.{into_iter_items}
use Rattle.nb_long.specs.NewStore.{IsCarried, old_entry}
use Rattle.nb_long.proofs.handle.new_store.carry_all.Given as goal

abbrev pub invariant-loop-key : goal.invariant-loop-key
invariant-loop-key g l =
    (goal.iterator-loop-key g).can_next l.key-iterator
    × (goal.iterator-loop-key g).is_finite l.key-iterator
    × (map old_entry l.all.items ++ into_iter_items l.key-iterator ≡ l.fn.entries.items)
    × All (IsCarried g.V.Clone.is_clone l.fn.old l.fn.new) l.all.items
    × (map (λ carried. carried.new.index) l.all.items ≡ range_with_len 0 (length l.all.items))
    × (length l.fn.entries.items ≤ vec_capacity l.all)
