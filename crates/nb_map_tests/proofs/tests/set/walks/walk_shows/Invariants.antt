use Rattle.std.proofs.Common.{◌≡◌, ◌==◌, ℕ, Bool, List, []}
use Rattle.std.specs.List.{list_any}
use Rattle.nb_set.specs.Sets.{HasLogged, IsMine, SeatOf, SetOf}
use Rattle.nb_set.specs.Walks.{HasShown, IsWalkOf, WalkOf, begun, slots_before}
use Rattle.nb_map_tests.proofs.tests.set.walks.walk_shows.Given as goal

-- the walk of this seat has shown these keys, and this is whether the one that is sought is of them
pub record HasGone (set : SetOf) (before seat : SeatOf) (walk : WalkOf) (sought : ℕ) (found : Bool)
    : Type 0 where
  pub own : IsMine set seat
  pub is_walk : IsWalkOf set seat walk
  pub quiet : HasLogged before (begun walk) []
  pub keys : List ℕ
  pub shown : HasShown set seat walk keys
  pub of_them : found ≡ list_any (λ k. k == sought) keys

abbrev pub invariant-loop-key : goal.invariant-loop-key
invariant-loop-key l = HasGone l.set l.fn.seat l.seat l.walk l.sought l.found

abbrev pub decreases-loop-key : goal.decreases-loop-key
decreases-loop-key l = slots_before l.set l.walk
