-- What rows tell.
use Rattle.std.specs.Prelude.{◌≡◌, ℕ, List, Some, map, slice_get}
use Rattle.nb_texts.specs.declared.tally.Row.{Row}

-- these are the lines in their order, each with its count and its place
pub record AreRowsOf (texts : List (List ℕ)) (counts : List ℕ) (rows : List Row) : Type 0 where
  pub lines : map (λ row. row.line.now) rows ≡ texts
  pub times : map (λ row. row.times) rows ≡ counts
  pub places : (i : ℕ) (row : Row) → slice_get rows i ≡ Some row → row.place ≡ i
