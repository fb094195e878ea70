use Rattle.std.proofs.Common.{◌≡◌, ◌≤◌, length, map, take, vec_capacity}
use Rattle.nb_set.specs.OfMap.{pair_for}
use Rattle.nb_set.proofs.set.opening.entries_of.Given as goal

abbrev pub invariant-loop-key : goal.invariant-loop-key
invariant-loop-key l =
    (l.entries.items ≡ map pair_for (take l.key-index l.keys))
    × (length l.keys ≤ vec_capacity l.entries)
