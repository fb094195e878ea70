use Rattle.std.proofs.Common.{◌≡◌, ◌++◌, ◌≤◌, List, All, length, reverse, vec_capacity}
use Rattle.nb_set.specs.Handles.{HandleOf, all_seats}
use Rattle.nb_set.proofs.handle.Handle.join_all.Given as goal

abbrev pub invariant-loop-other : goal.invariant-loop-other
invariant-loop-other l =
    (front : List HandleOf) × (l.fn.others.items ≡ front ++ reverse l.others.items)
    × (l.self.reserve ≡ l.fn.self.reserve ++ all_seats front) × (l.self.set ≡ l.fn.self.set)
    × (l.self.seat ≡ l.fn.self.seat) × All (λ other. other.set ≡ l.fn.self.set) l.others.items
    × (length l.others.items ≤ vec_capacity l.others)

abbrev pub decreases-loop-other : goal.decreases-loop-other
decreases-loop-other l = length l.others.items
