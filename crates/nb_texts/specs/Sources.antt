-- What a read of a block does to the lines of an input.
use Rattle.std.specs.Prelude.{◌≡◌, ◌≢◌, ◌+◌, ◌≤◌, ◌⊎◌, Bool, false, List, All, [], ◌∷◌, ◌++◌, ℕ, Option, Some, IfSome, drop, length}
use Rattle.std.specs.Io.KnownBytes.{Consumes, IsAtEnd}
use Rattle.nb_lines.specs.declared.faults.ProgramFault.TheVariants as fault
use Rattle.nb_lines.specs.declared.faults.ProgramFault.{ProgramFault}
use Rattle.nb_texts.specs.Lines.{lines_in}
use Rattle.nb_texts.specs.declared.source.Turn.{Turn}
use Rattle.nb_texts.specs.declared.source.Turn.TheVariants.{Cut, Ended, More}

-- The lines of what was left are those of the block, and then those of what is left now: of the rest
-- that was read, and of what the reader has. Where there is no block, nothing was left.
pub record HasCut (some : Bool) (known known' : Option (List ℕ)) (before block rest : List ℕ) :
    Type 0 where
  pub cut :
      IfSome known (λ input. (left : List ℕ) × (known' ≡ Some left)
      × (lines_in (before ++ input) ≡ lines_in block ++ lines_in (rest ++ left)))
  pub ended : some ≡ false → IfSome known (λ input. before ++ input ≡ [])

-- A block has a line at least, and no more bytes than its first line and so many.
pub record IsBlock (ahead : ℕ) (block : List ℕ) : Type 0 where
  pub first : List ℕ
  pub others : List (List ℕ)
  pub lines : lines_in block ≡ first ∷ others
  pub short : length block ≤ length first + ahead

-- it is no more than a line, or a part of one
abbrev pub IsInOneLine : List ℕ → Type 0
IsInOneLine text = All (λ byte. byte ≢ 10) text

-- A text is cut behind the first newline from a place on; where none is there, it is all in front.
pub record IsCutBehind (at : ℕ) (text front behind : List ℕ) : Type 0 where
  pub line : List ℕ
  pub one : IsInOneLine line
  pub whole : text ≡ front ++ behind
  pub cut :
      (drop at text ≡ line ++ 10 ∷ behind) ⊎ ((drop at text ≡ line) × (behind ≡ []))

-- A part that is cut ends with a newline, and no newline is behind it. Else nothing is behind it: it has
-- no newline, or where the input has ended, is empty.
abbrev pub EndsBy : (known : Option (List ℕ)) → (part rest : List ℕ) → Turn → Type 0
EndsBy known part rest Cut = ((front : List ℕ) × (part ≡ front ++ 10 ∷ [])) × IsInOneLine rest
EndsBy known part rest Ended = (part ≡ []) × (rest ≡ []) × IsAtEnd known
EndsBy known part rest More = IsInOneLine part × (rest ≡ [])

-- Of what the reader gave a part stands behind the block, which is at most so many bytes, and the rest
-- is kept.
pub record HasTakenIn (ahead : ℕ) (known known' : Option (List ℕ)) (block block' rest : List ℕ)
    (turn : Turn) : Type 0 where
  pub part : List ℕ
  pub took : Consumes known known' (part ++ rest)
  pub kept : block' ≡ block ++ part
  pub few : length part ≤ ahead
  pub ends : EndsBy known' part rest turn

-- the fault is that the reader failed, or memory was refused
abbrev pub IsReadFault : ProgramFault → Type 0
IsReadFault told = (told ≡ fault.Read) ⊎ (told ≡ fault.OutOfMemory)
