-- An input that is read piece by piece, and cut behind a newline.
use Rattle.std.proofs.Common.{◌≡◌, ◌≢◌, ◌∙◌, ◌+◌, ◌-◌, ◌<◌, ◌≤◌, ◌==◌, ℕ, suc, Bool, true, false, cond, List, [], ◌∷◌, ◌++◌, None, Option, Some, IfSome, ap, append-nil, append_assoc, arith, drop, inl, inr, length, length-append, length-drop, length-take, refl, slice_index, subst, sym, take}
use Rattle.std.proofs.lemmas.Bool.{eq-eqb, ne_eqb}
use Rattle.std.proofs.lemmas.List.{drop-drop, get_or-drop, get_or-take, take-append-drop}
use Rattle.std.proofs.lemmas.List.Elements.{All-append, All-from_get_or}
use Rattle.std.proofs.lemmas.List.Sums.{sum_by-cons}
use Rattle.std.specs.Prelude.{◌⊎◌, count_by}
use Rattle.std.specs.Bool.{OnTrue}
use Rattle.std.specs.Io.KnownBytes.{Consumes, IsAtEnd, Keeps}
use Rattle.nb_texts.specs.Lines.{lines_in, onto}
use Rattle.nb_texts.specs.Sources.{HasCut, HasTakenIn, IsBlock, IsCutBehind, IsInOneLine}
use Rattle.nb_texts.specs.declared.source.Turn.TheVariants.{Cut, Ended, More}
use Rattle.nb_texts.proofs.LinesLemmas.{cut-at, lines-append}

-- ---- the first line of a block

abbrev first_of : List (List ℕ) → List ℕ
first_of [] = []
first_of (line ∷ lines) = line

onto-first : (byte : ℕ) (lines : List (List ℕ)) → first_of (onto byte lines) ≡ byte ∷ first_of lines
onto-first byte [] = refl
onto-first byte (line ∷ lines) = refl

onto-others : (byte : ℕ) (lines : List (List ℕ))
    → (others : List (List ℕ)) × (onto byte lines ≡ first_of (onto byte lines) ∷ others)
onto-others byte [] = ([], refl)
onto-others byte (line ∷ lines) = (lines, refl)

lines-others :
    (byte : ℕ) (text : List ℕ) → (others : List (List ℕ))
    × (lines_in (byte ∷ text) ≡ first_of (lines_in (byte ∷ text)) ∷ others)
lines-others byte text = of (byte == 10)
  where
    of :
        (b : Bool) → (others : List (List ℕ))
        × (cond b ([] ∷ lines_in text) (onto byte (lines_in text))
        ≡ first_of (cond b ([] ∷ lines_in text) (onto byte (lines_in text))) ∷ others)
    of true = (lines_in text, refl)
    of false = onto-others byte (lines_in text)

-- it is as long as what comes before the first newline
first-long :
    (front back : List ℕ) → IsInOneLine front
    → length front ≤ length (first_of (lines_in (front ++ back)))
first-long [] back one = omega arith
first-long (byte ∷ front) back one =
    rw (ne_eqb byte 10 (one 0 0 (omega arith)))
    (omega (
      arith,
      first-long front back (λ k d less. one (suc k) d (omega (arith, less))),
      ap length (onto-first byte (lines_in (front ++ back))),
    ))

pub block-of :
    (ahead : ℕ) (text front part : List ℕ) → text ≡ front ++ part → text ≢ [] → IsInOneLine front
    → length part ≤ ahead → IsBlock ahead text
block-of ahead [] front part is some one few = absurd (some refl)
block-of ahead (byte ∷ text) front part is some one few =
    let there = lines-others byte text in
    let long : length front ≤ length (first_of (lines_in (byte ∷ text)))
    = subst (λ text. length front ≤ length (first_of (lines_in text))) (sym is)
    (first-long front part one) in
    record {
      first = first_of (lines_in (byte ∷ text));
      others = there.0;
      lines = there.1;
      short = omega (arith, long, few, ap length is, length-append front part);
    }

-- behind the last newline, or where there is none
pub one-behind :
    (text : List ℕ) (n : ℕ) → ((k : ℕ) → n ≤ k → k < length text → slice_index text k ≢ 10)
    → IsInOneLine (drop n text)
one-behind text n other =
    All-from_get_or (λ byte. byte ≢ 10) (drop n text) 0
    (λ i less is. other (n + i) (omega arith) (omega (arith, less, length-drop n text))
    (sym (get_or-drop n text i 0) ∙ is))

-- before the first one
one-before :
    (text : List ℕ) (n : ℕ) → ((k : ℕ) → k < n → slice_index text k ≢ 10)
    → IsInOneLine (take n text)
one-before text n other =
    All-from_get_or (λ byte. byte ≢ 10) (take n text) 0
    (λ i less is.
    let before : i < n = omega (arith, less, length-take n text) in
    other i before (sym (get_or-take n text i 0 before) ∙ is))

-- a text that is cut behind its first newline from a place on
pub cut-from :
    (text : List ℕ) (at more : ℕ) → at + more < length text → slice_index (drop at text) more ≡ 10
    → ((k : ℕ) → k < more → slice_index (drop at text) k ≢ 10)
    → IsCutBehind at text (take (at + more + 1) text) (drop (at + more + 1) text)
cut-from text at more less is before =
    let next : at + (more + 1) ≡ at + more + 1 = omega arith in
    record {
      line = take more (drop at text);
      one = one-before (drop at text) more before;
      whole = sym (take-append-drop (at + more + 1) text);
      cut = inl (cut-at (drop at text) more (omega (arith, less, length-drop at text)) is
          ∙ ap (λ behind. take more (drop at text) ++ 10 ∷ behind)
          (drop-drop (more + 1) at text ∙ ap (λ n. drop n text) next));
    }

-- ---- how many lines a text has

onto-many : (byte : ℕ) (lines : List (List ℕ)) → 1 ≤ length lines
    → length (onto byte lines) ≡ length lines
onto-many byte [] some = absurd (omega (arith, some))
onto-many byte (line ∷ lines) some = refl

-- one for each newline, and one more where the last byte is none
lines-many :
    (byte : ℕ) (text : List ℕ)
    → length (lines_in (byte ∷ text))
    ≡ count_by (λ byte. byte == 10) (byte ∷ text)
    + cond {A = ℕ} (slice_index (byte ∷ text) (length text) == 10) 0 1
lines-many byte [] =
    omega (
      arith,
      of (byte == 10),
      sum_by-cons (λ byte. cond {A = ℕ} (byte == 10) 1 0) byte [],
    )
  where
    of :
        (b : Bool) → length (cond b ([] ∷ []) ((byte ∷ []) ∷ []))
        ≡ cond {A = ℕ} b 1 0 + cond {A = ℕ} b 0 1
    of true = refl
    of false = refl
lines-many byte (next ∷ text) =
    omega (
      arith,
      of (byte == 10),
      lines-many next text,
      sum_by-cons (λ byte. cond {A = ℕ} (byte == 10) 1 0) byte (next ∷ text),
    )
  where
    of :
        (b : Bool) → length (cond b ([] ∷ lines_in (next ∷ text)) (onto byte (lines_in (next ∷ text))))
        ≡ cond {A = ℕ} b 1 0 + length (lines_in (next ∷ text))
    of true = omega arith
    of false =
        let others = lines-others next text in
        omega (arith, onto-many byte (lines_in (next ∷ text)) (omega (arith, ap length others.1)))

pub lines-closed :
    (text : List ℕ) → 0 < length text → slice_index text (length text - 1) ≡ 10
    → count_by (λ byte. byte == 10) text ≡ length (lines_in text)
lines-closed [] some last = absurd (omega (arith, some))
lines-closed (byte ∷ text) some last =
    let at : length (byte ∷ text) - 1 ≡ length text = omega arith in
    let is = subst (λ k. slice_index (byte ∷ text) k ≡ 10) at last in
    omega (
      arith,
      lines-many byte text,
      ap (λ b. cond {A = ℕ} b 0 1) (eq-eqb (slice_index (byte ∷ text) (length text)) 10 is),
    )

pub lines-open :
    (text : List ℕ) → 0 < length text → slice_index text (length text - 1) ≢ 10
    → count_by (λ byte. byte == 10) text + 1 ≡ length (lines_in text)
lines-open [] some last = absurd (omega (arith, some))
lines-open (byte ∷ text) some last =
    let at : length (byte ∷ text) - 1 ≡ length text = omega arith in
    let is = subst (λ k. slice_index (byte ∷ text) k ≢ 10) at last in
    omega (
      arith,
      lines-many byte text,
      ap (λ b. cond {A = ℕ} b 0 1) (ne_eqb (slice_index (byte ∷ text) (length text)) 10 is),
    )

-- ---- pieces

-- what was left is what was read, and what the reader has left now
abbrev pub HasRead : (known now : Option (List ℕ)) → (before block : List ℕ) → Type 0
HasRead known now before block =
    IfSome known (λ input. (left : List ℕ) × (now ≡ Some left) × (before ++ input ≡ block ++ left))

pub read-none : (known : Option (List ℕ)) (before : List ℕ) → HasRead known known before before
read-none None before = tt
read-none (Some input) before = (input, refl, refl)

pub read-kept :
    (known now next : Option (List ℕ)) (before block : List ℕ) → HasRead known now before block
    → Keeps now next → HasRead known next before block
read-kept None now next before block read kept = tt
read-kept (Some input) now next before block (left, is, same) kept =
    of next (subst (λ now. Keeps now next) is kept)
  where
    of : (next : Option (List ℕ)) → Keeps (Some left) next → HasRead (Some input) next before block
    of None kept = absurd kept
    of (Some bytes) kept = (bytes, refl, same ∙ ap (λ left. block ++ left) (sym kept))

pub read-more :
    (known now next : Option (List ℕ)) (before block bytes : List ℕ)
    → HasRead known now before block → Consumes now next bytes
    → HasRead known next before (block ++ bytes)
read-more None now next before block bytes read took = tt
read-more (Some input) now next before block bytes (left, is, same) took =
    of next (subst (λ now. Consumes now next bytes) is took)
  where
    of : (next : Option (List ℕ)) → Consumes (Some left) next bytes
        → HasRead (Some input) next before (block ++ bytes)
    of None took = absurd took
    of (Some rest) took =
        (rest, refl, same ∙ ap (λ left. block ++ left) took ∙ sym (append_assoc block bytes rest))

-- a newline was read: the block ends behind the last one
pub cut-behind :
    (known now : Option (List ℕ)) (before block rest front : List ℕ)
    → HasRead known now before (block ++ rest) → block ≡ front ++ 10 ∷ []
    → HasCut true known now before block rest
cut-behind None now before block rest front read is = record { cut = tt; ended = λ no. absurd cc }
cut-behind (Some input) now before block rest front (left, here, same) is = record {
  cut = (
    left,
    here,
    ap lines_in (same ∙ append_assoc block rest left ∙ ap (λ block. block ++ (rest ++ left)) is)
        ∙ lines-append front (rest ++ left)
        ∙ ap (λ block. lines_in block ++ lines_in (rest ++ left)) (sym is),
  );
  ended = λ no. absurd cc;
}

-- nothing more comes: the block is all that was left
pub cut-all :
    (some : Bool) (known now : Option (List ℕ)) (before block : List ℕ)
    → HasRead known now before block → IsAtEnd now → (some ≡ false → block ≡ [])
    → HasCut some known now before block []
cut-all some None now before block read end empty = record { cut = tt; ended = λ no. tt }
cut-all some (Some input) now before block (left, is, same) end empty =
    let none : left ≡ [] = subst IsAtEnd is end in
    record {
      cut = (
        left,
        is,
        ap lines_in (same ∙ ap (λ left. block ++ left) none ∙ append-nil block)
            ∙ sym (append-nil (lines_in block))
            ∙ ap (λ left. lines_in block ++ lines_in ([] ++ left)) (sym none),
      );
      ended = λ no. same ∙ ap (λ block. block ++ left) (empty no) ∙ none;
    }

pub read-on :
    (known now next : Option (List ℕ)) (before block block' part rest : List ℕ)
    → HasRead known now before block → Consumes now next (part ++ rest) → block' ≡ block ++ part
    → HasRead known next before (block' ++ rest)
read-on known now next before block block' part rest read took kept =
    subst (HasRead known next before)
    (sym (append_assoc block part rest) ∙ ap (λ block. block ++ rest) (sym kept))
    (read-more known now next before block (part ++ rest) read took)

pub read-whole :
    (known next : Option (List ℕ)) (before block rest : List ℕ)
    → HasRead known next before (block ++ rest) → rest ≡ [] → HasRead known next before block
read-whole known next before block rest read none =
    subst (HasRead known next before) (ap (λ rest. block ++ rest) none ∙ append-nil block) read

-- ---- what the next block is

pub none-in-line : (text : List ℕ) → text ≡ [] → IsInOneLine text
none-in-line text none = λ k d less. absurd (omega (arith, less, ap length none))

-- the block ends behind the last newline that was read
pub cut-done :
    (ahead : ℕ) (known now next : Option (List ℕ)) (before old block rest : List ℕ)
    → HasRead known now before old → IsInOneLine old → HasTakenIn ahead now next old block rest Cut
    → HasCut true known next before block rest × IsBlock ahead block
cut-done ahead known now next before old block rest read one on =
    let front = on.ends.0.0 in
    let ends : block ≡ (old ++ front) ++ 10 ∷ []
    = on.kept ∙ ap (λ part. old ++ part) on.ends.0.1 ∙ sym (append_assoc old front (10 ∷ [])) in
    let many = length-append (old ++ front) (10 ∷ []) in (
      cut-behind known next before block rest (old ++ front)
          (read-on known now next before old block on.part rest read on.took on.kept) ends,
      block-of ahead block old on.part on.kept
          (λ none. absurd (omega (arith, ap length ends, ap length none, many))) one on.few,
    )

-- the input has ended
pub end-done :
    (some : Bool) (ahead : ℕ) (known now next : Option (List ℕ)) (before old block rest : List ℕ)
    → HasRead known now before old → IsInOneLine old → HasTakenIn ahead now next old block rest Ended
    → (some ≡ false → block ≡ []) → (some ≡ true → block ≢ [])
    → HasCut some known next before block rest × OnTrue some (IsBlock ahead block)
end-done some ahead known now next before old block rest read one on empty full =
    let none = on.ends.1 in
    let all =
    read-whole known next before block rest
    (read-on known now next before old block on.part rest read on.took on.kept) none in (
      subst (HasCut some known next before block) (sym none)
          (cut-all some known next before block all on.ends.2 empty),
      of some full,
    )
  where
    of : (some : Bool) → (some ≡ true → block ≢ []) → OnTrue some (IsBlock ahead block)
    of true full =
        block-of ahead block old on.part on.kept (full refl) one (omega (arith, ap length on.ends.0))
    of false full = tt

-- no newline came
pub more-done :
    (ahead : ℕ) (known now next : Option (List ℕ)) (before old block rest : List ℕ)
    → HasRead known now before old → IsInOneLine old → HasTakenIn ahead now next old block rest More
    → HasRead known next before block × IsInOneLine block
more-done ahead known now next before old block rest read one on = (
  read-whole known next before block rest
      (read-on known now next before old block on.part rest read on.took on.kept) on.ends.1,
  subst IsInOneLine (sym on.kept) (All-append (λ byte. byte ≢ 10) old on.part one on.ends.0),
)

-- ---- a text in two

-- what is behind a cut is shorter than a text that has something
pub cut-shorter :
    (at : ℕ) (text front behind : List ℕ) → IsCutBehind at text front behind → 0 < length text
    → length behind < length text
cut-shorter at text front behind cut some = go cut.cut
  where
    go : (drop at text ≡ cut.line ++ 10 ∷ behind) ⊎ ((drop at text ≡ cut.line) × (behind ≡ []))
        → length behind < length text
    go (inl is) =
        omega (arith, ap length is, length-drop at text, length-append cut.line (10 ∷ behind))
    go (inr is) = omega (arith, ap length is.1, some)
