-- What all seats know of the chain that they close.
use Rattle.std.specs.Prelude.{◌≡◌, ℕ, ◌<◌, ◌==◌, List, count_by, All}
use Rattle.nb_table.specs.Chains.{SeenBy}
use Rattle.nb_table.specs.Left.{ClosedOf, IsLeft}
use Rattle.nb_table.specs.Views.{HasSeen}

-- One legal history left these words. Each seat has seen a beginning of it with all its own events,
-- and each number is one seat's.
pub record ClosedWith (seats : List SeenBy) (closed : ClosedOf) : Type 0 where
  pub left : IsLeft closed
  pub seen : All (λ seat. HasSeen closed.history seat.number seat.seen) seats
  pub once : (n : ℕ) → n < closed.shape.seats → count_by (λ seat. seat.number == n) seats ≡ 1
