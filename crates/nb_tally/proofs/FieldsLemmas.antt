-- The fields of lines, each with a newline, are a text of these lines.
use Rattle.std.proofs.Common.{◌≡◌, ◌≢◌, ◌∙◌, ◌<◌, ◌≤◌, ◌+◌, ◌-◌, ◌==◌, ℕ, zero, suc, false, List, [], ◌∷◌, ◌++◌, ap, append-nil, append_assoc, arith, drop, get_or, inl, inr, length, map, refl, slice_index, sym, take}
use Rattle.std.proofs.lemmas.Bool.{cases_Bool, eq-eqb, ne_eqb}
use Rattle.nb_texts.specs.Lines.{lines_in, onto, text_of_lines}
use Rattle.nb_tally.specs.Fields.{field, fields}
use Rattle.nb_tally.specs.declared.fields.Column.{Column}

-- ---- the first field

pub first-field :
    (delimiter : ℕ) (line : List ℕ) (end : ℕ) → end < length line → slice_index line end ≡ delimiter
    → ((k : ℕ) → k < end → slice_index line k ≢ delimiter)
    → fields delimiter line ≡ take end line ∷ fields delimiter (drop (suc end) line)
first-field delimiter [] end less is before = absurd (omega (arith, less))
first-field delimiter (byte ∷ line) zero less is before = rw (eq-eqb byte delimiter is) refl
first-field delimiter (byte ∷ line) (suc end) less is before =
    rw (ne_eqb byte delimiter (before 0 (omega arith)))
    (ap (onto byte) (first-field delimiter line end (omega (arith, less)) is
    (λ k less. before (suc k) (omega (arith, less)))))

pub only-field :
    (delimiter : ℕ) (line : List ℕ) → ((k : ℕ) → k < length line → slice_index line k ≢ delimiter)
    → fields delimiter line ≡ line ∷ []
only-field delimiter [] other = refl
only-field delimiter (byte ∷ line) other =
    rw (ne_eqb byte delimiter (other 0 (omega arith)))
    (ap (onto byte) (only-field delimiter line (λ k less. other (suc k) (omega (arith, less)))))

-- ---- the field of a number

-- the delimiter comes first at this end
abbrev IsFirstAt : (delimiter : ℕ) (line : List ℕ) (end : ℕ) → Type 0
IsFirstAt delimiter line end =
    (end < length line) × (slice_index line end ≡ delimiter)
    × ((k : ℕ) → k < end → slice_index line k ≢ delimiter)

abbrev IsNowhere : (delimiter : ℕ) (line : List ℕ) → Type 0
IsNowhere delimiter line = (k : ℕ) → k < length line → slice_index line k ≢ delimiter

pub field-here :
    (delimiter : ℕ) (line : List ℕ) (end number : ℕ) → IsFirstAt delimiter line end → number ≤ 1
    → take end line ≡ get_or (fields delimiter line) (number - 1) []
field-here delimiter line end number (less, is, before) low =
    let first : number - 1 ≡ 0 = omega (arith, low) in
    rw first (sym (ap (λ fields. get_or fields 0 []) (first-field delimiter line end less is before)))

pub field-behind :
    (delimiter : ℕ) (line : List ℕ) (end number : ℕ) → IsFirstAt delimiter line end → 1 < number
    → get_or (fields delimiter (drop (end + 1) line)) (number - 1 - 1) []
    ≡ get_or (fields delimiter line) (number - 1) []
field-behind delimiter line end number (less, is, before) high =
    let more : number - 1 ≡ suc (number - 1 - 1) = omega (arith, high) in
    let next : suc end ≡ end + 1 = omega arith in
    sym (ap (λ n. get_or (fields delimiter line) n []) more
    ∙ ap (λ fields. get_or fields (suc (number - 1 - 1)) []) (first-field delimiter line end less is before)
    ∙ ap (λ n. get_or (fields delimiter (drop n line)) (number - 1 - 1) []) next)

pub field-last :
    (delimiter : ℕ) (line : List ℕ) (number : ℕ) → IsNowhere delimiter line → number ≤ 1
    → line ≡ get_or (fields delimiter line) (number - 1) []
field-last delimiter line number other low =
    let first : number - 1 ≡ 0 = omega (arith, low) in
    rw first (sym (ap (λ fields. get_or fields 0 []) (only-field delimiter line other)))

pub field-missing :
    (delimiter : ℕ) (line : List ℕ) (number : ℕ) → IsNowhere delimiter line → 1 < number
    → get_or (fields delimiter line) (number - 1) [] ≡ []
field-missing delimiter line number other high =
    let more : number - 1 ≡ suc (number - 1 - 1) = omega (arith, high) in
    ap (λ n. get_or (fields delimiter line) n []) more
    ∙ ap (λ fields. get_or fields (suc (number - 1 - 1)) []) (only-field delimiter line other)

-- ---- no newline is in a line, nor in its fields

abbrev IsOneLine : List ℕ → Type 0
IsOneLine [] = Unit {0}
IsOneLine (byte ∷ line) = ((byte == 10) ≡ false) × IsOneLine line

abbrev AreOneLine : List (List ℕ) → Type 0
AreOneLine [] = Unit {0}
AreOneLine (line ∷ lines) = IsOneLine line × AreOneLine lines

onto-one :
    (byte : ℕ) (lines : List (List ℕ)) → (byte == 10) ≡ false → AreOneLine lines
    → AreOneLine (onto byte lines)
onto-one byte [] other are = ((other, tt), tt)
onto-one byte (line ∷ lines) other are = ((other, are.0), are.1)

lines-one : (text : List ℕ) → AreOneLine (lines_in text)
lines-one [] = tt
lines-one (byte ∷ text) = elim (cases_Bool (byte == 10)) [
  | inl same ↦ rw same (tt, lines-one text)
  | inr other ↦ rw other (onto-one byte (lines_in text) other (lines-one text))
]

fields-one : (delimiter : ℕ) (line : List ℕ) → IsOneLine line → AreOneLine (fields delimiter line)
fields-one delimiter [] one = (tt, tt)
fields-one delimiter (byte ∷ line) (other, rest) = elim (cases_Bool (byte == delimiter)) [
  | inl same ↦ rw same (tt, fields-one delimiter line rest)
  | inr more ↦ rw more (onto-one byte (fields delimiter line) other (fields-one delimiter line rest))
]

one-at : (lines : List (List ℕ)) (n : ℕ) → AreOneLine lines → IsOneLine (get_or lines n [])
one-at [] n are = tt
one-at (line ∷ lines) zero are = are.0
one-at (line ∷ lines) (suc n) are = one-at lines n are.1

column-one : (column : Column) (lines : List (List ℕ)) → AreOneLine lines → AreOneLine (map (field column) lines)
column-one column [] are = tt
column-one column (line ∷ lines) (one, rest) = (
  one-at (fields column.delimiter line) (column.number - 1) (fields-one column.delimiter line one),
  column-one column lines rest,
)

-- ---- the lines of a text of such lines

line-then :
    (line more : List ℕ) → IsOneLine line → lines_in (line ++ 10 ∷ more) ≡ line ∷ lines_in more
line-then [] more one = refl
line-then (byte ∷ line) more (other, rest) = rw other (ap (onto byte) (line-then line more rest))

text-one : (lines : List (List ℕ)) → AreOneLine lines → lines_in (text_of_lines lines) ≡ lines
text-one [] are = refl
text-one (line ∷ lines) (one, rest) =
    ap lines_in (append_assoc line (10 ∷ []) (text_of_lines lines))
    ∙ line-then line (text_of_lines lines) one
    ∙ ap (λ lines. line ∷ lines) (text-one lines rest)

-- ---- the fields of a block, one behind another

pub text-more :
    (room more field : List ℕ) (fields : List (List ℕ)) → more ≡ (room ++ field) ++ 10 ∷ []
    → more ++ text_of_lines fields ≡ room ++ text_of_lines (field ∷ fields)
text-more room more field fields is =
    ap (λ more. more ++ text_of_lines fields) is
    ∙ append_assoc (room ++ field) (10 ∷ []) (text_of_lines fields)
    ∙ append_assoc room field (10 ∷ text_of_lines fields)
    ∙ ap (λ text. room ++ text) (sym (append_assoc field (10 ∷ []) (text_of_lines fields)))

-- nothing is left
pub text-all :
    (column : Column) (room rest block : List ℕ) → rest ≡ []
    → room ++ text_of_lines (map (field column) (lines_in rest))
    ≡ text_of_lines (map (field column) (lines_in block))
    → lines_in room ≡ map (field column) (lines_in block)
text-all column room rest block none all =
    let told : room ≡ text_of_lines (map (field column) (lines_in block))
    = sym (append-nil room)
    ∙ ap (λ rest. room ++ text_of_lines (map (field column) (lines_in rest))) (sym none) ∙ all in
    ap lines_in told
    ∙ text-one (map (field column) (lines_in block))
    (column-one column (lines_in block) (lines-one block))
