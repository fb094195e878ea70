-- What is counted of an input, block after block.
use Rattle.std.specs.Prelude.{◌≡◌, ℕ, Bool, true, false, IfSome, List, None, Option, length}
use Rattle.nb_texts.specs.Forgetting.{FitsAlone}
use Rattle.nb_texts.specs.Lines.{lines_in}
use Rattle.nb_texts.specs.Memory.{KeepsTo, TellsWhetherFits, ahead_under, load_of}
use Rattle.nb_texts.specs.Tallies.{IsTally}
use Rattle.nb_texts.specs.declared.catalog.Catalog.{Catalog}
use Rattle.nb_texts.specs.declared.memory.MemoryLimit.{MemoryLimit}
use Rattle.nb_tally.specs.Fields.{counted_of}
use Rattle.nb_tally.specs.Forgotten.{CanForget, HasRoomForLines, HasTallied, IsNarrow, Tells, ahead_finer}
use Rattle.nb_tally.specs.declared.fields.Column.{Column}
use Rattle.nb_tally.specs.declared.lines_forgotten.RoughTally.{RoughTally}

-- how many bytes are asked for at once
abbrev pub ahead_for : (forgets : Bool) → Option MemoryLimit → ℕ
ahead_for true limit = ahead_finer limit
ahead_for false limit = ahead_under limit

-- A block is left: what is counted of it might not fit within the limit, if it is new; where lines may be
-- forgotten, it wouldn't even fit beside the map alone.
pub record IsLeftOut (column : Option Column) (limit : Option MemoryLimit) (forgets : Bool)
    (catalog : Catalog) (block : List ℕ) : Type 0 where
  pub counted : List ℕ
  pub are : lines_in counted ≡ counted_of column (lines_in block)
  pub over : TellsWhetherFits limit catalog (load_of counted) false
  pub never :
      forgets ≡ true → IfSome limit (λ limit. FitsAlone limit catalog (load_of counted) → ⊥)

-- These lines were counted: all of them, unless some may be forgotten.
pub record HasCountedBlocks (ahead : ℕ) (column : Option Column) (limit : Option MemoryLimit) (forgets : Bool)
    (rough : RoughTally) (lines : List (List ℕ)) : Type 0 where
  pub ready : CanForget rough
  pub tells : Tells rough (counted_of column lines)
  pub exact :
      forgets ≡ false
      → IsTally (counted_of column lines) rough.tally.catalog.texts rough.tally.counts.items
  pub kept : KeepsTo limit (length lines) rough.tally.catalog
  pub room : HasRoomForLines (length rough.tally.catalog.texts) rough.tally.catalog
  pub most : ℕ
  pub narrow : IsNarrow limit most rough.tally.catalog
  pub tallied : HasTallied ahead limit column lines most rough
  pub unlimited : limit ≡ None → rough.missed.times ≡ 0
