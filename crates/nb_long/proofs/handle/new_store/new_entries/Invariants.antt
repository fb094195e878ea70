use Rattle.std.proofs.Common.{◌≡◌, ◌≤◌, length, map, take, vec_capacity}
use Rattle.nb_long.specs.NewStore.{new_entry}
use Rattle.nb_long.proofs.handle.new_store.new_entries.Given as goal

abbrev pub invariant-loop-one : goal.invariant-loop-one
invariant-loop-one g l =
    (l.entries.items ≡ map new_entry (take l.one-index l.carried.items))
    × (length l.carried.items ≤ vec_capacity l.entries)
