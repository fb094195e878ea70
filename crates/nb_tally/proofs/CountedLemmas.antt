-- What is counted of lines.
use Rattle.std.proofs.Common.{◌≡◌, ◌∙◌, ℕ, List, [], ◌++◌, None, Option, Some, ap, length, refl, sym}
use Rattle.std.proofs.lemmas.List.{length-map, map-append}
use Rattle.nb_tally.specs.Fields.{counted_of, field}
use Rattle.nb_tally.specs.declared.fields.Column.{Column}

pub counted-none : (column : Option Column) → counted_of column [] ≡ []
counted-none None = refl
counted-none (Some column) = refl

pub counted-append :
    (column : Option Column) (lines more : List (List ℕ))
    → counted_of column (lines ++ more) ≡ counted_of column lines ++ counted_of column more
counted-append None lines more = refl
counted-append (Some column) lines more = map-append (field column) lines more

pub counted-many : (column : Option Column) (lines : List (List ℕ))
    → length (counted_of column lines) ≡ length lines
counted-many None lines = refl
counted-many (Some column) lines = length-map lines (field column)

-- of lines and a block, and what comes behind
pub counted-all :
    (column : Option Column) (lines block more counted : List (List ℕ))
    → counted ≡ counted_of column block
    → counted_of column (lines ++ (block ++ more))
    ≡ counted_of column lines ++ (counted ++ counted_of column more)
counted-all column lines block more counted are =
    counted-append column lines (block ++ more)
    ∙ ap (λ rest. counted_of column lines ++ rest)
    (counted-append column block more ∙ ap (λ first. first ++ counted_of column more) (sym are))
