-- What is counted of an input if the rarest lines are forgotten.
use Rattle.std.specs.Prelude.{◌≡◌, ◌+◌, ◌*◌, ◌-◌, ◌/◌, ◌^◌, ◌≤◌, ◌++◌, ℕ, false, IfSome, List, [], None, Option, Some, length, max, min, take}
use Rattle.nb_core.specs.declared.shapes.TheConstants.{MOST_KEYS}
use Rattle.nb_texts.specs.Catalogs.{IsAtRest}
use Rattle.nb_texts.specs.Forgetting.{AreLines, FitsAlone, IsMiddle, IsTallyOfSome, IsTallyWithin, lines_above}
use Rattle.nb_texts.specs.Lines.{lines_in}
use Rattle.nb_texts.specs.Memory.{TellsWhetherFits, ahead_under, load_of, room_at_first, shape_with_room}
use Rattle.nb_texts.specs.Sources.{IsBlock}
use Rattle.nb_texts.specs.Tallies.{IsTally}
use Rattle.nb_texts.specs.declared.catalog.Catalog.{Catalog}
use Rattle.nb_texts.specs.declared.memory.Load.{Load}
use Rattle.nb_texts.specs.declared.memory.MemoryLimit.{MemoryLimit}
use Rattle.nb_tally.specs.Fields.{counted_of}
use Rattle.nb_tally.specs.Limits.{ComesNext}
use Rattle.nb_tally.specs.declared.fields.Column.{Column}
use Rattle.nb_tally.specs.declared.lines_forgotten.Missed.{Missed}
use Rattle.nb_tally.specs.declared.lines_forgotten.RoughTally.{RoughTally}
use Rattle.nb_tally.specs.declared.lines_forgotten.TheConstants.{BYTES_OF_BLOCK}

-- lines can be entered and forgotten
pub record CanForget (rough : RoughTally) : Type 0 where
  pub rest : IsAtRest rough.tally.catalog
  pub lines : AreLines rough.tally.catalog.texts
  pub tally : IsTallyOfSome rough.tally.catalog.texts rough.tally.counts.items

-- it tells how often each of these lines comes, but for what is missed
abbrev pub Tells : RoughTally → (lines : List (List ℕ)) → Type 0
Tells rough lines =
    IsTallyWithin rough.missed.times lines rough.tally.catalog.texts rough.tally.counts.items

-- what it told is still told
abbrev pub KeepsTold : (before after : RoughTally) → Type 0
KeepsTold before after = (lines : List (List ℕ)) → Tells before lines → Tells after lines

-- of the input the first lines were counted, so many
pub record TellsFirst (column : Option Column) (input : List ℕ) (lines : ℕ) (rough : RoughTally) :
    Type 0 where
  pub within : lines ≤ length (lines_in input)
  pub tells : Tells rough (counted_of column (take lines (lines_in input)))

-- how many bytes are asked for at once: of a limit a small part, one at least
abbrev pub ahead_finer : Option MemoryLimit → ℕ
ahead_finer None = ahead_under None
ahead_finer (Some limit) = max (min (ahead_under (Some limit)) (limit.bytes / BYTES_OF_BLOCK)) 1

-- behind so many lines a block comes that wouldn't fit within the limit beside the map alone, if what
-- is counted of it is new
pub record FitsNever (column : Option Column) (limit : MemoryLimit) (input : List ℕ) (lines : ℕ)
    (catalog : Catalog) : Type 0 where
  pub block : List ℕ
  pub counted : List ℕ
  pub comes : ComesNext column (ahead_finer (Some limit)) input lines block counted
  pub over : FitsAlone limit catalog (load_of counted) → ⊥

-- the map has room for so many lines, or for as many as any map can have
abbrev pub HasRoomForLines : (lines : ℕ) → Catalog → Type 0
HasRoomForLines lines catalog = min lines MOST_KEYS ≤ catalog.room

-- ---- how a tally came about

-- the lines, the counts and what is missed are the same
pub record IsAlike (before after : RoughTally) : Type 0 where
  pub texts : after.tally.catalog.texts ≡ before.tally.catalog.texts
  pub counts : after.tally.counts.items ≡ before.tally.counts.items
  pub missed : after.missed ≡ before.missed

-- these lines were counted, too
pub record HasTalliedMore (lines : List (List ℕ)) (before after : RoughTally) : Type 0 where
  pub tally :
      (all : List (List ℕ)) → IsTally all before.tally.catalog.texts before.tally.counts.items
      → IsTally (all ++ lines) after.tally.catalog.texts after.tally.counts.items
  pub missed : after.missed ≡ before.missed

-- once more lines were cut off, which may have come so often
abbrev pub with_cut : (cut : ℕ) → Missed → Missed
with_cut cut missed =
    record { times = missed.times + cut; cuts = min (missed.cuts + 1) (2 ^ 64 - 1) }

-- those lines alone were kept that came more often than the middle one
pub record HasForgotten (before after : RoughTally) : Type 0 where
  pub cut : ℕ
  pub middle : IsMiddle before.tally.counts.items cut
  pub tally :
      (all : List (List ℕ)) → IsTally all before.tally.catalog.texts before.tally.counts.items
      → IsTally (lines_above cut all) after.tally.catalog.texts after.tally.counts.items
  pub missed : after.missed ≡ with_cut cut before.missed

-- the map was made for so many lines, or as many as at first, or for fewer
pub record IsNarrow (limit : Option MemoryLimit) (most : ℕ) (catalog : Catalog) : Type 0 where
  pub made : catalog.handle.map.chain.shape ≡ shape_with_room catalog.room
  pub room : IfSome limit (λ limit. catalog.room ≤ max (room_at_first limit) most)

-- To make room for a block lines were cut off, as often as need be: each time because the block might
-- not fit within the limit beside those that were kept, and a map for so many.
pub data HasCutFor (limit : Option MemoryLimit) (most : ℕ) (block : Load) (before : RoughTally) :
    RoughTally → Type 0 where
  Never : {after : RoughTally} → IsAlike before after → HasCutFor limit most block before after
  Again :
      {then after : RoughTally} → HasCutFor limit most block before then
      → IsNarrow limit most then.tally.catalog
      → TellsWhetherFits limit then.tally.catalog block false → HasForgotten then after
      → HasCutFor limit most block before after

-- How these lines were counted, from the first one on: block after block, for each of which room was made
-- before. The map was made for twice as many lines as there were with a block.
pub data HasTallied (ahead : ℕ) (limit : Option MemoryLimit) (column : Option Column) :
    (lines : List (List ℕ)) (most : ℕ) → RoughTally → Type 0 where
  Begun :
      {rough : RoughTally} → rough.tally.catalog.texts ≡ [] → rough.tally.counts.items ≡ []
      → rough.missed ≡ record { times = 0; cuts = 0 } → HasTallied ahead limit column [] 0 rough
  Entered :
      {lines lines' : List (List ℕ)} {most most' : ℕ} {before then after : RoughTally}
      → HasTallied ahead limit column lines most before → (block counted : List ℕ)
      → IsBlock ahead block → lines_in counted ≡ counted_of column (lines_in block)
      → lines' ≡ lines ++ lines_in block
      → most' ≡ max most (2 * (length before.tally.catalog.texts + length (lines_in block)))
      → HasCutFor limit most (load_of counted) before then
      → HasTalliedMore (lines_in counted) then after
      → HasTallied ahead limit column lines' most' after
