-- How many bytes lines take.
use Rattle.std.proofs.Common.{◌≡◌, ◌∙◌, ◌+◌, ◌*◌, ◌<◌, ◌≤◌, ◌==◌, ℕ, suc, Bool, true, false, cond, List, [], ◌∷◌, ◌++◌, None, Option, Some, ap, arith, inl, inr, length, length-append, mul-add, mul-le-mul_left, mul-one, mul-suc, refl, sym}
use Rattle.std.specs.Prelude.{min, sum_by}
use Rattle.std.proofs.lemmas.Bool.{cases_Bool}
use Rattle.std.proofs.lemmas.List.Sums.{sum_by-append, sum_by-cons}
use Rattle.nb_core.specs.declared.shapes.TheConstants.{MOST_KEYS}
use Rattle.nb_texts.proofs.LinesLemmas.{with-few}
use Rattle.nb_texts.specs.Lines.{is_among, lines_in, onto, with_new_lines}
use Rattle.nb_texts.specs.Memory.{KeepsTo, TellsWhetherFits, bytes_of_texts, load_of, most_bytes_with}
use Rattle.nb_texts.specs.declared.catalog.Catalog.{Catalog}
use Rattle.nb_texts.specs.declared.memory.Load.{Load}
use Rattle.nb_texts.specs.declared.memory.MemoryLimit.{MemoryLimit}

-- ---- the lines of a text

onto-bytes : (byte : ℕ) (lines : List (List ℕ))
    → sum_by length (onto byte lines) ≡ suc (sum_by length lines)
onto-bytes byte [] = refl
onto-bytes byte (line ∷ lines) =
    omega (arith, sum_by-cons length (byte ∷ line) lines, sum_by-cons length line lines)

-- they have no more bytes than it
lines-bytes : (text : List ℕ) → sum_by length (lines_in text) ≤ length text
lines-bytes [] = omega arith
lines-bytes (byte ∷ text) = of (byte == 10) (lines-bytes text)
  where
    of :
        (b : Bool) → sum_by length (lines_in text) ≤ length text
        → sum_by length (cond b ([] ∷ lines_in text) (onto byte (lines_in text)))
        ≤ suc (length text)
    of true less = omega (arith, less, sum_by-cons length [] (lines_in text))
    of false less = omega (arith, less, onto-bytes byte (lines_in text))

-- ---- lines are entered

-- what they take that are new is no more than what they all would take
texts-with :
    (each : ℕ) (known lines : List (List ℕ))
    → bytes_of_texts each (with_new_lines known lines)
    ≤ bytes_of_texts each known + (sum_by length lines + each * length lines)
texts-with each known [] = omega arith
texts-with each known (line ∷ lines) =
    let more = sum_by-cons length line lines in
    let one : each * suc (length lines) ≡ each * length lines + each = mul-suc each (length lines) in
    elim (cases_Bool (is_among line known)) [
      | inl old ↦ rw old (omega (arith, texts-with each known lines, more, one))
      | inr new ↦
          let put : sum_by length (known ++ line ∷ []) ≡ sum_by length known + sum_by length (line ∷ [])
          = sum_by-append length known (line ∷ []) in
          let last = sum_by-cons length line [] in
          let times : each * length (known ++ line ∷ []) ≡ each * length known + each
          = ap (λ n. each * n) (length-append known (line ∷ [])) ∙ mul-suc' each (length known) in
          rw new (omega (arith, texts-with each (known ++ line ∷ []) lines, more, one, put, last, times))
    ]
  where
    mul-suc' : (m n : ℕ) → m * (n + 1) ≡ m * n + m
    mul-suc' m n = mul-add m n 1 ∙ ap (λ k. m * n + k) (mul-one m)

-- a block of no more than so many lines
bytes-entered :
    (each many : ℕ) (texts : List (List ℕ)) (text : List ℕ) → length (lines_in text) ≤ many
    → bytes_of_texts each (with_new_lines texts (lines_in text))
    ≤ bytes_of_texts each texts + (length text + each * many)
bytes-entered each many texts text few =
    omega (
      arith,
      texts-with each texts (lines_in text),
      lines-bytes text,
      mul-le-mul_left each few,
    )

-- ---- a limit

pub kept-none : (limit : Option MemoryLimit) (catalog : Catalog) → KeepsTo limit 0 catalog
kept-none None catalog = tt
kept-none (Some limit) catalog = λ some. absurd (omega (arith, some))

-- a block that fits was entered
pub kept-more :
    (limit : Option MemoryLimit) (taken : ℕ) (before after : Catalog) (load : Load) (text : List ℕ)
    → TellsWhetherFits limit before load true → length (lines_in text) ≤ load.lines
    → load.bytes ≡ length text → after.texts ≡ with_new_lines before.texts (lines_in text)
    → after.handle.map ≡ before.handle.map → KeepsTo limit taken after
kept-more None taken before after load text fits few bytes entered same = tt
kept-more (Some limit) taken before after load text fits few bytes entered same = λ some.
    let kept = bytes-entered limit.each load.lines before.texts text few in
    rw (entered, same) (omega (arith, kept, fits, bytes))

-- without a limit each block fits
pub unlimited : (limit : Option MemoryLimit) (catalog : Catalog) (load : Load)
    → TellsWhetherFits limit catalog load false → limit ≡ None → ⊥
unlimited None catalog load fits none = cc
unlimited (Some limit) catalog load fits none = cc

-- a block might not fit whose lines are so many
pub over-with :
    (limit : MemoryLimit) (catalog : Catalog) (load : Load) (text : List ℕ)
    → load.lines ≡ length (lines_in text) → load.bytes ≡ length text
    → limit.bytes < most_bytes_with limit.each catalog load
    → limit.bytes < most_bytes_with limit.each catalog (load_of text)
over-with limit catalog load text many bytes over = of (length (lines_in text)) (length text) many bytes
  where
    of :
        (n m : ℕ) → load.lines ≡ n → load.bytes ≡ m
        → limit.bytes < most_bytes_with limit.each catalog (record { lines = n; bytes = m })
    of n m many bytes = rw (sym many, sym bytes) over

-- ---- room

-- where room was made for so many more lines, and is too little, no map has room for so many texts
pub no-more-room :
    (texts lines : List (List ℕ)) (many room : ℕ) → length lines ≤ many
    → min (length texts + many) MOST_KEYS ≤ room → room < length (with_new_lines texts lines)
    → MOST_KEYS < length (with_new_lines texts lines)
no-more-room texts lines many room few made past = omega (arith, few, made, past, with-few texts lines)
