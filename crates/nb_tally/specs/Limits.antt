-- What is counted of an input under a limit of memory.
use Rattle.std.specs.Prelude.{◌≡◌, ◌<◌, ◌≤◌, ◌++◌, ℕ, List, Option, Some, drop, length, take}
use Rattle.nb_texts.specs.Lines.{lines_in}
use Rattle.nb_texts.specs.Memory.{ahead_under, load_of, most_bytes_with}
use Rattle.nb_texts.specs.Sources.{IsBlock}
use Rattle.nb_texts.specs.Tallies.{IsTally}
use Rattle.nb_texts.specs.declared.catalog.Catalog.{Catalog}
use Rattle.nb_texts.specs.declared.memory.MemoryLimit.{MemoryLimit}
use Rattle.nb_tally.specs.Fields.{counted_of}
use Rattle.nb_tally.specs.declared.fields.Column.{Column}

-- so many lines of the input, from the first one on, were counted
pub record IsTallyOfFirst (column : Option Column) (input : List ℕ) (lines : ℕ)
    (texts : List (List ℕ)) (counts : List ℕ) : Type 0 where
  pub within : lines ≤ length (lines_in input)
  pub tally : IsTally (counted_of column (take lines (lines_in input))) texts counts

-- behind so many lines of the input this block comes, and so much of it is counted
pub record ComesNext (column : Option Column) (ahead : ℕ) (input : List ℕ) (lines : ℕ)
    (block counted : List ℕ) : Type 0 where
  pub is_block : IsBlock ahead block
  pub rest : List ℕ
  pub next : drop lines (lines_in input) ≡ lines_in block ++ lines_in rest
  pub are : lines_in counted ≡ counted_of column (lines_in block)

-- behind so many lines a block comes that might not fit within the limit, if what is counted of it is
-- new
pub record MayNotFit (column : Option Column) (limit : MemoryLimit) (input : List ℕ) (lines : ℕ)
    (catalog : Catalog) : Type 0 where
  pub block : List ℕ
  pub counted : List ℕ
  pub comes : ComesNext column (ahead_under (Some limit)) input lines block counted
  pub over : limit.bytes < most_bytes_with limit.each catalog (load_of counted)
