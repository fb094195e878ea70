-- An input is read block after block, each of whole lines.
use Rattle.std.proofs.Common.{◌≡◌, ◌∙◌, ◌<◌, ◌≤◌, ℕ, Bool, false, List, [], ◌++◌, None, Option, Some, IfSome, ap, append-nil, append_assoc, arith, drop, length, length-append, refl, subst, sym, take}
use Rattle.std.proofs.lemmas.List.{drop_at, take_at}
use Rattle.nb_texts.proofs.LinesLemmas.{with-append, with-longer}
use Rattle.nb_texts.specs.Lines.{distinct, lines_in, with_new_lines}
use Rattle.nb_texts.specs.Sources.{HasCut}

-- what is known of an input, where it is known
pub on-known :
    (known : Option (List ℕ)) (P Q : List ℕ → Type 0) → ((input : List ℕ) → P input → Q input)
    → IfSome known P → IfSome known Q
on-known None P Q f is = tt
on-known (Some input) P Q f is = f input is

-- these are its first lines, and behind them comes what is left of it
abbrev pub IsReading : (known now : Option (List ℕ)) (lines : List (List ℕ)) (rest : List ℕ) → Type 0
IsReading known now lines rest =
    IfSome known (λ input. (left : List ℕ) × (now ≡ Some left)
    × (lines_in input ≡ lines ++ lines_in (rest ++ left)))

pub reading-begun : (known : Option (List ℕ)) (rest : List ℕ) → rest ≡ []
    → IsReading known known [] rest
reading-begun None rest empty = tt
reading-begun (Some input) rest empty =
    (input, refl, ap (λ rest. lines_in (rest ++ input)) (sym empty))

pub reading-more :
    (known now next : Option (List ℕ)) (lines : List (List ℕ)) (rest rest' block : List ℕ) (some : Bool)
    → IsReading known now lines rest → HasCut some now next rest block rest'
    → IsReading known next (lines ++ lines_in block) rest'
reading-more None now next lines rest rest' block some reading cut = tt
reading-more (Some input) now next lines rest rest' block some (left, is, same) cut =
    let here = subst (λ now. IfSome now (λ input. (left : List ℕ) × (next ≡ Some left)
    × (lines_in (rest ++ input) ≡ lines_in block ++ lines_in (rest' ++ left)))) is cut.cut in (
      here.0,
      here.1,
      same ∙ ap (λ more. lines ++ more) here.2
          ∙ sym (append_assoc lines (lines_in block) (lines_in (rest' ++ here.0))),
    )

-- nothing is left
pub reading-ended :
    (known now next : Option (List ℕ)) (lines : List (List ℕ)) (rest rest' block : List ℕ) (some : Bool)
    → IsReading known now lines rest → HasCut some now next rest block rest' → some ≡ false
    → IfSome known (λ input. lines ≡ lines_in input)
reading-ended None now next lines rest rest' block some reading cut ended = tt
reading-ended (Some input) now next lines rest rest' block some (left, is, same) cut ended =
    let none : rest ++ left ≡ []
    = subst (λ now. IfSome now (λ input. rest ++ input ≡ [])) is (cut.ended ended) in
    sym (same ∙ ap (λ bytes. lines ++ lines_in bytes) none ∙ append-nil lines)

-- so many lines were read
pub reading-first :
    (known now : Option (List ℕ)) (lines : List (List ℕ)) (rest : List ℕ) (taken : ℕ)
    → taken ≡ length lines → IsReading known now lines rest
    → IfSome known (λ input. (taken ≤ length (lines_in input)) × (take taken (lines_in input) ≡ lines))
reading-first None now lines rest taken many reading = tt
reading-first (Some input) now lines rest taken many (left, is, same) =
    let more = lines_in (rest ++ left) in (
      omega (arith, many, ap length same, length-append lines more),
      ap (take taken) same ∙ take_at lines more taken (sym many),
    )

-- and behind them comes a block
pub reading-next :
    (known now next : Option (List ℕ)) (lines : List (List ℕ)) (rest rest' block : List ℕ) (some : Bool)
    (taken : ℕ) → taken ≡ length lines → IsReading known now lines rest
    → HasCut some now next rest block rest'
    → IfSome known (λ input. (behind : List ℕ)
    × (drop taken (lines_in input) ≡ lines_in block ++ lines_in behind))
reading-next None now next lines rest rest' block some taken many reading cut = tt
reading-next (Some input) now next lines rest rest' block some taken many (left, is, same) cut =
    let here = subst (λ now. IfSome now (λ input. (left : List ℕ) × (next ≡ Some left)
    × (lines_in (rest ++ input) ≡ lines_in block ++ lines_in (rest' ++ left)))) is cut.cut in (
      rest' ++ here.0,
      ap (drop taken) same ∙ drop_at lines (lines_in (rest ++ left)) taken (sym many) ∙ here.2,
    )

-- the input has no fewer lines than were read,
pub reading-many :
    (known now : Option (List ℕ)) (lines : List (List ℕ)) (rest : List ℕ) (most : ℕ)
    → most ≤ length lines → IsReading known now lines rest
    → IfSome known (λ input. most ≤ length (lines_in input))
reading-many None now lines rest most many reading = tt
reading-many (Some input) now lines rest most many (left, is, same) =
    omega (arith, many, ap length same, length-append lines (lines_in (rest ++ left)))

-- and no fewer distinct ones, also of what is taken of each line
pub reading-distinct :
    (f : List (List ℕ) → List (List ℕ))
    → ((lines more : List (List ℕ)) → f (lines ++ more) ≡ f lines ++ f more)
    → (known now : Option (List ℕ)) (lines : List (List ℕ)) (rest : List ℕ) (most : ℕ)
    → most < length (distinct (f lines)) → IsReading known now lines rest
    → IfSome known (λ input. most < length (distinct (f (lines_in input))))
reading-distinct f append None now lines rest most many reading = tt
reading-distinct f append (Some input) now lines rest most many (left, is, same) =
    let more = lines_in (rest ++ left) in
    let all : distinct (f (lines_in input)) ≡ with_new_lines (distinct (f lines)) (f more)
    = ap (λ lines. distinct (f lines)) same ∙ ap distinct (append lines more)
    ∙ with-append [] (f lines) (f more) in
    omega (arith, many, ap length all, with-longer (distinct (f lines)) (f more))
