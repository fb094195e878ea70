-- The order of rows, and of counts of numbers.
use Rattle.std.specs.Cmp.Lexicographic.{slice_cmp}
use Rattle.std.specs.List.Sorted.{IsPermutation, IsSorted}
use Rattle.std.specs.Ordering.{nat_cmp, ordering_then}
use Rattle.std.specs.Prelude.{◌≡◌, ℕ, List, None, Option, Some, take}
use Rattle.std.specs.declared.cmp.Ordering.{Ordering}
use Rattle.nb_tally.specs.declared.counting.Count.{Count}
use Rattle.nb_tally.specs.declared.options.Order.TheVariants as order
use Rattle.nb_tally.specs.declared.options.Order.{Order}
use Rattle.nb_texts.specs.declared.tally.Row.{Row}

-- the most frequent first, and equally frequent ones by their first coming
abbrev pub count_cmp : Row → Row → Ordering
count_cmp one other =
    ordering_then (nat_cmp other.times one.times) (nat_cmp one.place other.place)

-- by their lines, byte by byte
abbrev pub row_cmp : Row → Row → Ordering
row_cmp one other =
    ordering_then (slice_cmp nat_cmp one.line.now other.line.now)
    (ordering_then (nat_cmp one.times other.times) (nat_cmp one.place other.place))

-- the first ones of them, if not all are asked for
abbrev pub first_of : {X : Type 0} → (top : Option ℕ) → List X → List X
first_of None all = all
first_of (Some top) all = take top all

-- all rows were put into an order, and the first ones were left
pub record HasOrdered (asked : Order) (top : Option ℕ) (came left : List Row) : Type 0 where
  pub rows : List Row
  pub same : IsPermutation came rows
  pub by_count : asked ≡ order.Count → IsSorted count_cmp rows
  pub by_line : asked ≡ order.Line → IsSorted row_cmp rows
  pub as_first : asked ≡ order.First → rows ≡ came
  pub cut : left ≡ first_of top rows

-- ---- counts of numbers

-- ascending by number
abbrev pub number_cmp : Count → Count → Ordering
number_cmp one other =
    ordering_then (nat_cmp one.number other.number) (nat_cmp one.times other.times)

-- the most frequent first, and equally frequent ones by number
abbrev pub times_cmp : Count → Count → Ordering
times_cmp one other =
    ordering_then (nat_cmp other.times one.times) (nat_cmp one.number other.number)

-- by number or, where only the most frequent are asked for, these first
abbrev pub cmp_for : (top : Option ℕ) → Count → Count → Ordering
cmp_for None = number_cmp
cmp_for (Some top) = times_cmp

-- all counts were put into this order, and the first ones were left
pub record HasOrderedCounts (top : Option ℕ) (came left : List Count) : Type 0 where
  pub counts : List Count
  pub same : IsPermutation came counts
  pub sorted : IsSorted (cmp_for top) counts
  pub cut : left ≡ first_of top counts
