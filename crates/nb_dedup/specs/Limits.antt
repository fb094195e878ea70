-- What is printed of an input under a limit of memory.
use Rattle.std.specs.Io.KnownBytes.{Appends}
use Rattle.std.specs.Prelude.{◌≡◌, ◌<◌, ◌≤◌, ◌++◌, ℕ, false, List, Option, Some, drop, length, take}
use Rattle.nb_texts.specs.Catalogs.{IsAtRest}
use Rattle.nb_texts.specs.Lines.{distinct, lines_in, text_of_lines}
use Rattle.nb_texts.specs.Memory.{KeepsTo, TellsWhetherFits, ahead_under, load_of, most_bytes_with}
use Rattle.nb_texts.specs.Sources.{IsBlock}
use Rattle.nb_texts.specs.declared.catalog.Catalog.{Catalog}
use Rattle.nb_texts.specs.declared.memory.MemoryLimit.{MemoryLimit}

-- of so many lines of the input, from the first one on, the distinct ones were written
pub record HasPrintedFirst (input : List ℕ) (lines : ℕ) (before after : Option (List ℕ)) : Type 0 where
  pub within : lines ≤ length (lines_in input)
  pub wrote : Appends before after (text_of_lines (distinct (take lines (lines_in input))))

-- behind so many lines a block comes that might not fit within the limit, if its lines are new
pub record LinesMayNotFit (limit : MemoryLimit) (input : List ℕ) (lines : ℕ) (catalog : Catalog) : Type 0
  where
    pub block : List ℕ
    pub is_block : IsBlock (ahead_under (Some limit)) block
    pub rest : List ℕ
    pub next : drop lines (lines_in input) ≡ lines_in block ++ lines_in rest
    pub over : limit.bytes < most_bytes_with limit.each catalog (load_of block)

-- the lines of a block might not fit within a limit, if they are new; without one they do
abbrev pub BlockMayNotFit : Option MemoryLimit → Catalog → (block : List ℕ) → Type 0
BlockMayNotFit limit catalog block = TellsWhetherFits limit catalog (load_of block) false

-- The distinct ones of these lines were written, and are all that the catalog has.
pub record HasPrintedLines (limit : Option MemoryLimit) (before after : Option (List ℕ))
    (lines : List (List ℕ)) (catalog : Catalog) : Type 0 where
  pub rest : IsAtRest catalog
  pub are : catalog.texts ≡ distinct lines
  pub wrote : Appends before after (text_of_lines (distinct lines))
  pub kept : KeepsTo limit (length lines) catalog
