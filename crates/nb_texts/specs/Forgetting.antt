-- The rarest lines of a tally are forgotten.
use Rattle.std.specs.List.{filter}
use Rattle.std.specs.Prelude.{◌≡◌, ◌+◌, ◌*◌, ◌≤◌, ◌⊎◌, ℕ, All, Bool, Contains, false, List, [], ◌∷◌, Some, count_by, length, nat_lt, slice_get, slice_index}
use Rattle.nb_texts.specs.Lines.{is_among}
use Rattle.nb_texts.specs.Memory.{bytes_of_load, bytes_of_map}
use Rattle.nb_texts.specs.Sources.{IsInOneLine}
use Rattle.nb_texts.specs.Tallies.{IsTally, times}
use Rattle.nb_texts.specs.declared.catalog.Catalog.{Catalog}
use Rattle.nb_texts.specs.declared.memory.Load.{Load}
use Rattle.nb_texts.specs.declared.memory.MemoryLimit.{MemoryLimit}

-- ---- a cut

-- none of the texts has a newline
abbrev pub AreLines : List (List ℕ) → Type 0
AreLines texts = All IsInOneLine texts

-- the counts are those of some lines
abbrev pub IsTallyOfSome : (known : List (List ℕ)) → (counts : List ℕ) → Type 0
IsTallyOfSome known counts = (lines : List (List ℕ)) × IsTally lines known counts

-- It is one of the counts, or 0 where there is none; and no more than half of them are above it, and no
-- more than half below.
pub record IsMiddle (counts : List ℕ) (middle : ℕ) : Type 0 where
  pub one : Contains counts middle ⊎ ((counts ≡ []) × (middle ≡ 0))
  pub above : 2 * count_by (λ count. nat_lt middle count) counts ≤ length counts
  pub below : 2 * count_by (λ count. nat_lt count middle) counts ≤ length counts

-- whether a line is among these more often than so
abbrev pub comes_above : (cut : ℕ) → List (List ℕ) → List ℕ → Bool
comes_above cut lines line = nat_lt cut (times line lines)

-- those of the lines that come more often than so
abbrev pub lines_above : (cut : ℕ) → List (List ℕ) → List (List ℕ)
lines_above cut lines = filter (comes_above cut lines) lines

-- ---- what is still known

-- these are some of all, in their order
abbrev pub ArePartOf : (some all : List (List ℕ)) → Type 0
ArePartOf [] all = Unit {0}
ArePartOf (line ∷ some) [] = ⊥
ArePartOf (line ∷ some) (first ∷ all) =
    ((line ≡ first) × ArePartOf some all) ⊎ ArePartOf (line ∷ some) all

-- Of these lines some are counted, exactly, and each line is left out so many times at most: its count,
-- or 0 if it has none, is no more than the times that it comes, and at most so much less. So many are
-- left out of all, at least.
pub record IsTallyWithin (missed : ℕ) (lines known : List (List ℕ)) (counts : List ℕ) : Type 0 where
  pub counted : List (List ℕ)
  pub part : ArePartOf counted lines
  pub left_out : (line : List ℕ) → times line lines ≤ times line counted + missed
  pub many : length counted + missed ≤ length lines
  pub tally : IsTally counted known counts

-- A line that has a count comes so often at least, and at most so many times more; one that has none
-- comes no more often than that. All lines are as many, at least.
pub record AreBounds (missed : ℕ) (lines known : List (List ℕ)) (counts : List ℕ) : Type 0 where
  pub least :
      (place : ℕ) (line : List ℕ) → slice_get known place ≡ Some line
      → slice_index counts place ≤ times line lines
  pub most :
      (place : ℕ) (line : List ℕ) → slice_get known place ≡ Some line
      → times line lines ≤ slice_index counts place + missed
  pub others : (line : List ℕ) → is_among line known ≡ false → times line lines ≤ missed
  pub few : missed ≤ length lines

-- ---- a limit

-- a block of new lines fits within a limit beside the map alone
pub record FitsAlone (limit : MemoryLimit) (catalog : Catalog) (block : Load) : Type 0 where
  pub room : block.lines ≤ catalog.room
  pub bytes :
      bytes_of_map catalog.handle.map.chain.shape + bytes_of_load limit.each block ≤ limit.bytes
