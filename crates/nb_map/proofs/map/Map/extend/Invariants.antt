use Rattle.std.proofs.Common.{◌≡◌, ℕ, List, ◌++◌, length}
use Rattle.nb_map.specs.Bulk.{HasPutAll}
use Rattle.nb_map.specs.Maps.{IsMine}
use Rattle.nb_map.proofs.map.Map.extend.Given as goal

abbrev pub invariant-loop-key : goal.invariant-loop-key
invariant-loop-key g l =
    IsMine l.self l.seat
    × (first : List (ℕ × ℕ)) × (l.fn.entries ≡ first ++ l.rest) × (length first ≡ l.put)
    × HasPutAll l.self l.fn.seat first l.seat

abbrev pub decreases-loop-key : goal.decreases-loop-key
decreases-loop-key g l = length l.rest
