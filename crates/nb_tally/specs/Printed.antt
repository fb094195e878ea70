-- What is printed.
use Rattle.std.specs.Io.KnownBytes.{Appends}
use Rattle.std.specs.List.{flat_map}
use Rattle.std.specs.Prelude.{◌+◌, ◌-◌, ◌^◌, ◌++◌, ℕ, List, None, Option, Some, codes, decimal, length, min, replicate}
use Rattle.nb_texts.specs.Rows.{AreRowsOf}
use Rattle.nb_texts.specs.declared.tally.Row.{Row}
use Rattle.nb_tally.specs.Sorting.{HasOrdered, HasOrderedCounts}
use Rattle.nb_tally.specs.declared.counting.Count.{Count}
use Rattle.nb_tally.specs.declared.options.LineOptions.{LineOptions}

-- a number and a space, behind spaces where it has fewer than seven digits
abbrev pub number_column : ℕ → List ℕ
number_column number = replicate (7 - length (decimal number)) 32 ++ decimal number ++ codes " "

-- how often a row's line came, or how often at least and at most, and the line
abbrev pub row_line : (missed : Option ℕ) → Row → List ℕ
row_line None row = number_column row.times ++ row.line.now ++ codes "\n"
row_line (Some missed) row =
    number_column row.times ++ number_column (min (row.times + missed) (2 ^ 64 - 1))
    ++ row.line.now ++ codes "\n"

-- the rows, each on a line of its own
abbrev pub text_of_rows : (missed : Option ℕ) → List Row → List ℕ
text_of_rows missed rows = flat_map (row_line missed) rows

-- The rows of a tally were put into the order that is asked for, and as many of them as are asked for,
-- and nothing else, were written.
pub record HasPrinted (options : LineOptions) (missed : Option ℕ) (texts : List (List ℕ))
    (counts : List ℕ) (before after : Option (List ℕ)) : Type 0 where
  pub came : List Row
  pub rows : AreRowsOf texts counts came
  pub left : List Row
  pub ordered : HasOrdered options.order options.top came left
  pub wrote : Appends before after (text_of_rows missed left)

-- ---- counts of numbers

-- how often a number came, and the number
abbrev pub count_line : Count → List ℕ
count_line count = number_column count.times ++ decimal count.number ++ codes "\n"

-- the counts, each on a line of its own
abbrev pub text_of_counts : List Count → List ℕ
text_of_counts counts = flat_map count_line counts

-- The counts were put into the order that is asked for, and as many of them as are asked for, and
-- nothing else, were written.
pub record HasPrintedCounts (top : Option ℕ) (came : List Count) (before after : Option (List ℕ)) :
    Type 0 where
  pub left : List Count
  pub ordered : HasOrderedCounts top came left
  pub wrote : Appends before after (text_of_counts left)
