-- The lines of a text, and the distinct ones among them.
use Rattle.std.specs.Prelude.{◌≡◌, ℕ, All, Bool, Contains, ◌==◌, List, [], ◌∷◌, ◌++◌, if◌then◌else◌}
use Rattle.std.specs.List.{flat_map, list_any}
use Rattle.core.specs.Str.{bytes_eq}

-- the lines with this byte before the first one
abbrev pub onto : ℕ → List (List ℕ) → List (List ℕ)
onto byte [] = (byte ∷ []) ∷ []
onto byte (line ∷ lines) = (byte ∷ line) ∷ lines

-- the lines of a text: a newline ends each of them, but the last one needs none
abbrev pub lines_in : List ℕ → List (List ℕ)
lines_in [] = []
lines_in (byte ∷ text) = if byte == 10 then [] ∷ lines_in text else onto byte (lines_in text)

-- the text of lines, each with a newline
abbrev pub text_of_lines : List (List ℕ) → List ℕ
text_of_lines lines = flat_map (λ line. line ++ 10 ∷ []) lines

-- whether the line is one of these
abbrev pub is_among : List ℕ → List (List ℕ) → Bool
is_among line lines = list_any (bytes_eq line) lines

-- these lines, and behind them those of others that aren't among them yet, each where it comes first
abbrev pub with_new_lines : List (List ℕ) → List (List ℕ) → List (List ℕ)
with_new_lines known [] = known
with_new_lines known (line ∷ lines) =
    with_new_lines (if is_among line known then known else known ++ line ∷ []) lines

-- the distinct lines, in the order of their first coming
abbrev pub distinct : List (List ℕ) → List (List ℕ)
distinct lines = with_new_lines [] lines

-- the texts are there still, and behind them come some of these lines
abbrev pub HaveGrownBy : (lines texts texts' : List (List ℕ)) → Type 0
HaveGrownBy lines texts texts' =
    (more : List (List ℕ)) × (texts' ≡ texts ++ more) × All (Contains lines) more
