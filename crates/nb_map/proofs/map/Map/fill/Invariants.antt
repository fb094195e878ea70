use Rattle.std.proofs.Common.{◌≡◌, ℕ, List, ◌++◌, length}
use Rattle.nb_map.specs.inside.Filling.{HasPut}
use Rattle.nb_map.proofs.map.Map.fill.Given as goal

abbrev pub invariant-loop-key : goal.invariant-loop-key
invariant-loop-key l =
    (first : List (ℕ × ℕ)) × (l.fn.entries ≡ first ++ l.rest)
    × HasPut l.self l.fn.entries first l.fn.seat l.seat

abbrev pub decreases-loop-key : goal.decreases-loop-key
decreases-loop-key l = length l.rest
