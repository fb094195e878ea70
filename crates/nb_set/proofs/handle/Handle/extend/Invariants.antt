use Rattle.std.proofs.Common.{◌≡◌, ℕ, List, ◌++◌, length}
use Rattle.nb_set.specs.Bulk.{HasAddedAll}
use Rattle.nb_set.specs.Handles.{KeepsRest}
use Rattle.nb_set.proofs.handle.Handle.extend.Given as goal

abbrev pub invariant-loop-key : goal.invariant-loop-key
invariant-loop-key g l =
    KeepsRest l.fn.self l.self
    × (first : List ℕ) × (l.fn.keys ≡ first ++ l.rest) × (length first ≡ l.put)
    × HasAddedAll l.fn.self.set l.fn.self.seat first l.self.seat

abbrev pub decreases-loop-key : goal.decreases-loop-key
decreases-loop-key g l = length l.rest
