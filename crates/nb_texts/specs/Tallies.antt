-- How often each line comes.
use Rattle.std.specs.Prelude.{◌≡◌, ◌^◌, ◌≤◌, ◌++◌, ℕ, Contains, List, count_by, map}
use Rattle.core.specs.Str.{bytes_eq}
use Rattle.nb_texts.specs.Lines.{distinct}

-- how often a line is among these
abbrev pub times : List ℕ → List (List ℕ) → ℕ
times line lines = count_by (bytes_eq line) lines

-- these are the distinct lines, in the order of their first coming, and the counts tell how often
-- each comes
pub record IsTally (lines known : List (List ℕ)) (counts : List ℕ) : Type 0 where
  pub are : known ≡ distinct lines
  pub told : counts ≡ map (λ line. times line lines) known

-- with the lines of a block one of them comes more often than a count can tell
abbrev pub ComesTooOften : (lines block : List (List ℕ)) → Type 0
ComesTooOften lines block =
    (line : List ℕ) × Contains block line × (2 ^ 64 ≤ times line (lines ++ block))
