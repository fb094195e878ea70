use Rattle.std.proofs.Common.{◌≡◌, ℕ, List, ◌++◌, length}
use Rattle.nb_set.specs.Bulk.{HasAddedAll}
use Rattle.nb_set.specs.Sets.{IsMine}
use Rattle.nb_set.proofs.set.LongSet.extend.Given as goal

abbrev pub invariant-loop-key : goal.invariant-loop-key
invariant-loop-key g l =
    IsMine l.self l.seat
    × (first : List ℕ) × (l.fn.keys ≡ first ++ l.rest) × (length first ≡ l.put)
    × HasAddedAll l.self l.fn.seat first l.seat

abbrev pub decreases-loop-key : goal.decreases-loop-key
decreases-loop-key g l = length l.rest
