use Rattle.std.proofs.Common.{◌≡◌, ◌≤◌, All, length, vec_capacity}
use Rattle.std.specs.Arc.{arc_value}
use Rattle.nb_map.proofs.handle.splitting.clones.Given as goal

abbrev pub invariant-loop : goal.invariant-loop
invariant-loop l =
    (length l.clones.items ≡ l.counter) × (l.count ≤ vec_capacity l.clones)
    × All (λ clone. arc_value clone ≡ arc_value l.fn.shared) l.clones.items
