-- The lines of a text.
use Rattle.std.proofs.Common.{◌≡◌, ◌≢◌, ◌∙◌, ◌<◌, ◌≤◌, ◌==◌, ◌+◌, ℕ, zero, suc, Bool, true, false, cond, if◌then◌else◌, List, [], ◌∷◌, ◌++◌, ap, append-nil, append_assoc, arith, drop, inl, inr, length, length-append, refl, slice_index, sym, take}
use Rattle.std.proofs.lemmas.Bool.{cases_Bool, eq-eqb, ne_eqb}
use Rattle.std.proofs.lemmas.List.{take-append-drop, take_more}
use Rattle.std.proofs.lemmas.List.Elements.{All-contains_itself, All-nil}
use Rattle.std.specs.Prelude.{Contains}
use Rattle.nb_texts.specs.Lines.{HaveGrownBy, is_among, lines_in, onto, with_new_lines}

-- ---- the first line

pub first-line :
    (text : List ℕ) (end : ℕ) → end < length text → slice_index text end ≡ 10
    → ((k : ℕ) → k < end → slice_index text k ≢ 10)
    → lines_in text ≡ take end text ∷ lines_in (drop (suc end) text)
first-line [] end less is before = absurd (omega (arith, less))
first-line (byte ∷ text) zero less is before = rw (eq-eqb byte 10 is) refl
first-line (byte ∷ text) (suc end) less is before =
    rw (ne_eqb byte 10 (before 0 (omega arith)))
    (ap (onto byte) (first-line text end (omega (arith, less)) is
    (λ k less. before (suc k) (omega (arith, less)))))

pub only-line :
    (byte : ℕ) (text : List ℕ) → ((k : ℕ) → k < length (byte ∷ text) → slice_index (byte ∷ text) k ≢ 10)
    → lines_in (byte ∷ text) ≡ (byte ∷ text) ∷ []
only-line byte [] other = rw (ne_eqb byte 10 (other 0 (omega arith))) refl
only-line byte (next ∷ text) other =
    rw (ne_eqb byte 10 (other 0 (omega arith)))
    (ap (onto byte) (only-line next text (λ k less. other (suc k) (omega (arith, less)))))

pub only-lines :
    (text : List ℕ) → text ≢ [] → ((k : ℕ) → k < length text → slice_index text k ≢ 10)
    → lines_in text ≡ text ∷ []
only-lines [] some other = absurd (some refl)
only-lines (byte ∷ text) some other = only-line byte text other

-- ---- two texts, where the first ends with a newline

onto-append :
    (byte : ℕ) (lines more : List (List ℕ)) → lines ≢ []
    → onto byte (lines ++ more) ≡ onto byte lines ++ more
onto-append byte [] more some = absurd (some refl)
onto-append byte (line ∷ lines) more some = refl

onto-some : (byte : ℕ) (lines : List (List ℕ)) → onto byte lines ≢ []
onto-some byte [] none = absurd cc
onto-some byte (line ∷ lines) none = absurd cc

lines-some : (text : List ℕ) → lines_in (text ++ 10 ∷ []) ≢ []
lines-some [] none = absurd cc
lines-some (byte ∷ text) none = of (byte == 10) none
  where
    of : (b : Bool)
        → cond b ([] ∷ lines_in (text ++ 10 ∷ [])) (onto byte (lines_in (text ++ 10 ∷ []))) ≡ [] → ⊥
    of true none = cc
    of false none = onto-some byte (lines_in (text ++ 10 ∷ [])) none

pub lines-append :
    (text more : List ℕ)
    → lines_in ((text ++ 10 ∷ []) ++ more) ≡ lines_in (text ++ 10 ∷ []) ++ lines_in more
lines-append [] more = refl
lines-append (byte ∷ text) more = of (byte == 10) (lines-append text more)
  where
    of : (b : Bool)
        → lines_in ((text ++ 10 ∷ []) ++ more) ≡ lines_in (text ++ 10 ∷ []) ++ lines_in more
        → cond b ([] ∷ lines_in ((text ++ 10 ∷ []) ++ more))
        (onto byte (lines_in ((text ++ 10 ∷ []) ++ more)))
        ≡ cond b ([] ∷ lines_in (text ++ 10 ∷ [])) (onto byte (lines_in (text ++ 10 ∷ [])))
        ++ lines_in more
    of true same = ap (λ lines. [] ∷ lines) same
    of false same =
        ap (onto byte) same
        ∙ onto-append byte (lines_in (text ++ 10 ∷ [])) (lines_in more) (lines-some text)

-- a text with a newline
pub cut-at :
    (text : List ℕ) (n : ℕ) → n < length text → slice_index text n ≡ 10
    → text ≡ take n text ++ 10 ∷ drop (n + 1) text
cut-at text n less is =
    let front : take (n + 1) text ≡ take n text ++ 10 ∷ []
    = take_more text n 0 less ∙ ap (λ byte. take n text ++ byte ∷ []) is in
    sym (take-append-drop (n + 1) text)
    ∙ ap (λ front. front ++ drop (n + 1) text) front
    ∙ append_assoc (take n text) (10 ∷ []) (drop (n + 1) text)

-- a text that is cut behind a newline
pub lines-cut :
    (text : List ℕ) (n : ℕ) → n < length text → slice_index text n ≡ 10
    → lines_in text ≡ lines_in (take (n + 1) text) ++ lines_in (drop (n + 1) text)
lines-cut text n less is =
    let front : take (n + 1) text ≡ take n text ++ 10 ∷ []
    = take_more text n 0 less ∙ ap (λ byte. take n text ++ byte ∷ []) is in
    ap lines_in (sym (take-append-drop (n + 1) text)
    ∙ ap (λ front. front ++ drop (n + 1) text) front)
    ∙ lines-append (take n text) (drop (n + 1) text)
    ∙ ap (λ front. lines_in front ++ lines_in (drop (n + 1) text)) (sym front)

-- ---- lines entered one after another

pub with-append :
    (known lines more : List (List ℕ))
    → with_new_lines known (lines ++ more) ≡ with_new_lines (with_new_lines known lines) more
with-append known [] more = refl
with-append known (line ∷ lines) more =
    with-append (if is_among line known then known else known ++ line ∷ []) lines more

-- what is known stays in front
pub with-grows :
    (known lines : List (List ℕ))
    → (more : List (List ℕ)) × (with_new_lines known lines ≡ known ++ more)
with-grows known [] = ([], sym (append-nil known))
with-grows known (line ∷ lines) = elim (cases_Bool (is_among line known)) [
  | inl old ↦
      let rest = with-grows known lines in
      (rest.0, rw old rest.1)
  | inr new ↦
      let rest = with-grows (known ++ line ∷ []) lines in
      (line ∷ rest.0, rw new (rest.1 ∙ append_assoc known (line ∷ []) rest.0))
]

-- none goes,
pub with-longer : (known lines : List (List ℕ)) → length known ≤ length (with_new_lines known lines)
with-longer known lines =
    let rest = with-grows known lines in
    omega (arith, ap length rest.1, length-append known rest.0)

-- and no more come than there are lines
pub with-few :
    (known lines : List (List ℕ)) → length (with_new_lines known lines) ≤ length known + length lines
with-few known [] = omega arith
with-few known (line ∷ lines) = elim (cases_Bool (is_among line known)) [
  | inl old ↦ rw old (omega (arith, with-few known lines))
  | inr new ↦
      rw new (omega (arith, with-few (known ++ line ∷ []) lines, length-append known (line ∷ [])))
]

-- ---- texts that stay

pub grown-none : (lines texts texts' : List (List ℕ)) → texts' ≡ texts → HaveGrownBy lines texts texts'
grown-none lines texts texts' same =
    ([], same ∙ sym (append-nil texts), All-nil (Contains lines))

pub grown-push :
    (line : List ℕ) (texts texts' : List (List ℕ)) → texts' ≡ texts ++ line ∷ []
    → HaveGrownBy (line ∷ []) texts texts'
grown-push line texts texts' pushed = (line ∷ [], pushed, All-contains_itself (line ∷ []))
