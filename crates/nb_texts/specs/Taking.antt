-- The lines of an input are taken, block after block.
use Rattle.std.specs.Prelude.{◌≡◌, ◌^◌, ◌<◌, ◌≤◌, ◌⊎◌, ◌++◌, ℕ, true, IfSome, List, Option, drop, length, take}
use Rattle.nb_core.specs.declared.shapes.TheConstants.{MOST_KEYS}
use Rattle.nb_lines.specs.declared.faults.ProgramFault.TheVariants as fault
use Rattle.nb_lines.specs.declared.faults.ProgramFault.{ProgramFault}
use Rattle.nb_texts.specs.Catalogs.{IsNoRoom}
use Rattle.nb_texts.specs.Lines.{distinct, lines_in}
use Rattle.nb_texts.specs.Sources.{IsBlock, IsReadFault}
use Rattle.nb_texts.specs.declared.memory.Taken.{Taken}

-- Lines were taken: the first ones of the input, so many, or all of them.
pub record HasTakenLines (known : Option (List ℕ)) (taken : Taken) (holds : List (List ℕ) → Type 0) :
    Type 0 where
  pub lines : List (List ℕ)
  pub many : taken.lines ≡ length lines
  pub held : holds lines
  pub first :
      IfSome known (λ input. (taken.lines ≤ length (lines_in input))
      × (take taken.lines (lines_in input) ≡ lines))
  pub whole : taken.is_whole ≡ true → IfSome known (λ input. lines ≡ lines_in input)

-- behind so many lines of the input this block comes
abbrev pub Follows : (taken : ℕ) → (block input : List ℕ) → Type 0
Follows taken block input =
    (rest : List ℕ) × (drop taken (lines_in input) ≡ lines_in block ++ lines_in rest)

-- Behind so many lines a block comes that was left.
pub record HasLeft (ahead : ℕ) (known : Option (List ℕ)) (taken : ℕ) (leaves : List ℕ → Type 0) :
    Type 0 where
  pub block : List ℕ
  pub is_block : IsBlock ahead block
  pub left : leaves block
  pub next : IfSome known (Follows taken block)

-- The lines of the input are refused.
pub record LinesAreRefused (known : Option (List ℕ)) (refuses : List (List ℕ) → Type 0) : Type 0 where
  pub lines : List (List ℕ)
  pub refused : refuses lines
  pub are : IfSome known (λ input. lines ≡ lines_in input)

-- no number tells how many lines there are
abbrev pub AreTooMany : (known : Option (List ℕ)) → Type 0
AreTooMany known = IfSome known (λ input. 2 ^ 64 ≤ length (lines_in input))

-- why lines aren't taken to the end: the reader failed, or they are refused, or too many
abbrev pub IsEndedBy : Option (List ℕ) → (refuses : ProgramFault → List (List ℕ) → Type 0) → ProgramFault
    → Type 0
IsEndedBy known refuses told =
    IsReadFault told ⊎ LinesAreRefused known (refuses told) ⊎ ((told ≡ fault.TooOften) × AreTooMany known)

-- what was taken of lines is refused
pub record IsTooMuch (told : ProgramFault) (taken : List (List ℕ)) : Type 0 where
  pub errors : IsNoRoom told ⊎ (told ≡ fault.TooOften)
  pub too_many : told ≡ fault.FullOfLines → MOST_KEYS < length (distinct taken)
  pub too_often : told ≡ fault.TooOften → 2 ^ 64 ≤ length taken
