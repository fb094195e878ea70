-- The fields of a line, and what is counted.
use Rattle.std.specs.Prelude.{ℕ, ◌-◌, ◌==◌, List, [], ◌∷◌, None, Option, Some, get_or, if◌then◌else◌, map}
use Rattle.nb_texts.specs.Lines.{onto}
use Rattle.nb_tally.specs.declared.fields.Column.{Column}

-- what stands before, between and behind the delimiters of a line
abbrev pub fields : (delimiter : ℕ) → List ℕ → List (List ℕ)
fields delimiter [] = [] ∷ []
fields delimiter (byte ∷ line) =
    if byte == delimiter then [] ∷ fields delimiter line else onto byte (fields delimiter line)

-- the field of this number, from 1 on, and an empty one where a line has fewer
abbrev pub field : Column → List ℕ → List ℕ
field column line = get_or (fields column.delimiter line) (column.number - 1) []

-- of these lines either each whole line is counted, or a column
abbrev pub counted_of : Option Column → List (List ℕ) → List (List ℕ)
counted_of None lines = lines
counted_of (Some column) lines = map (field column) lines
