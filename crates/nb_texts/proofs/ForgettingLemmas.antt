-- The rarest lines of a tally are forgotten.
use Rattle.std.proofs.Common.{◌≡◌, ◌≢◌, ◌∙◌, ◌+◌, ◌*◌, ◌<◌, ◌≤◌, ◌==◌, ℕ, Bool, true, false, cond, if◌then◌else◌, List, [], ◌∷◌, ◌++◌, ◌||◌, All, Some, ap, ap₂, append-nil, append_assoc, arith, get_or, inl, inr, length, length-append, map, refl, subst, sym, take}
use Rattle.std.specs.List.{filter}
use Rattle.std.specs.Prelude.{Contains, count_by, nat_lt, slice_get, slice_index}
use Rattle.std.proofs.lemmas.Bool.{cases_Bool, eq-eqb, le-ltb, ltb-false, ne_eqb}
use Rattle.std.proofs.lemmas.List.{get_or-map, length-map, map-append}
use Rattle.std.proofs.lemmas.List.Concat.{flat_map-append}
use Rattle.std.proofs.lemmas.List.Elements.{All-cons, All-filter, All-head, All-nil, All-push, All-tail, filter-append, filter_more}
use Rattle.std.proofs.lemmas.List.Sums.{count_by-le-length, length-filter, sum_by-cons}
use Rattle.std.proofs.lemmas.Option.{get_or_from_slice_get}
use Rattle.std.proofs.lemmas.Slice.Eq.{bytes_eq-Decides}
use Rattle.core.specs.Str.{bytes_eq}
use Rattle.nb_texts.proofs.LinesLemmas.{with-append, with-few}
use Rattle.nb_texts.proofs.PartLemmas.{part-few}
use Rattle.nb_texts.proofs.TallyLemmas.{all-with, index-map, never, times-append}
use Rattle.nb_texts.specs.Forgetting.{AreBounds, AreLines, ArePartOf, IsMiddle, IsTallyWithin, comes_above, lines_above}
use Rattle.nb_texts.specs.Lines.{distinct, is_among, lines_in, onto, text_of_lines, with_new_lines}
use Rattle.nb_texts.specs.Sources.{IsInOneLine}
use Rattle.nb_texts.specs.Tallies.{IsTally, times}

-- ---- lines without newlines

abbrev IsNoNewline : ℕ → Type 0
IsNoNewline byte = byte ≢ 10

onto-lines :
    (byte : ℕ) (lines : List (List ℕ)) → IsNoNewline byte → AreLines lines → AreLines (onto byte lines)
onto-lines byte [] other all =
    All-cons IsInOneLine (byte ∷ []) [] (All-cons IsNoNewline byte [] other (All-nil IsNoNewline))
    (All-nil IsInOneLine)
onto-lines byte (line ∷ lines) other all =
    All-cons IsInOneLine (byte ∷ line) lines
    (All-cons IsNoNewline byte line other (All-head IsInOneLine line lines all))
    (All-tail IsInOneLine line lines all)

lines-are : (text : List ℕ) → AreLines (lines_in text)
lines-are [] = All-nil IsInOneLine
lines-are (byte ∷ text) = elim (cases_Bool (byte == 10)) [
  | inl same ↦
      rw same (All-cons IsInOneLine [] (lines_in text) (All-nil IsNoNewline) (lines-are text))
  | inr other ↦
      let differs : IsNoNewline byte
      = λ is. let wrong : true ≡ false = sym (eq-eqb byte 10 is) ∙ other in cc in
      rw other (onto-lines byte (lines_in text) differs (lines-are text))
]

with-are : (known lines : List (List ℕ)) → AreLines known → AreLines lines
    → AreLines (with_new_lines known lines)
with-are known [] are all = are
with-are known (line ∷ lines) are all =
    let rest = All-tail IsInOneLine line lines all in
    elim (cases_Bool (is_among line known)) [
      | inl old ↦ rw old (with-are known lines are rest)
      | inr new ↦
          rw new (with-are (known ++ line ∷ []) lines
          (All-push IsInOneLine known line are (All-head IsInOneLine line lines all)) rest)
    ]

-- the lines of a text are entered
pub lines-with : (known : List (List ℕ)) (text : List ℕ) → AreLines known
    → AreLines (with_new_lines known (lines_in text))
lines-with known text are = with-are known (lines_in text) are (lines-are text)

pub lines-none : AreLines []
lines-none = All-nil IsInOneLine

line-then :
    (line more : List ℕ) → IsInOneLine line → lines_in (line ++ 10 ∷ more) ≡ line ∷ lines_in more
line-then [] more one = refl
line-then (byte ∷ line) more one =
    rw (ne_eqb byte 10 (All-head IsNoNewline byte line one))
    (ap (onto byte) (line-then line more (All-tail IsNoNewline byte line one)))

text-lines : (lines : List (List ℕ)) → AreLines lines → lines_in (text_of_lines lines) ≡ lines
text-lines [] are = refl
text-lines (line ∷ lines) are =
    ap lines_in (append_assoc line (10 ∷ []) (text_of_lines lines))
    ∙ line-then line (text_of_lines lines) (All-head IsInOneLine line lines are)
    ∙ ap (λ lines. line ∷ lines) (text-lines lines (All-tail IsInOneLine line lines are))

-- ---- lines that pass a test

same-passes :
    (p : List ℕ → Bool) (line other : List ℕ) → p line ≡ true → p other ≡ false
    → bytes_eq line other ≡ false
same-passes p line other holds fails = elim (cases_Bool (bytes_eq line other)) [
  | inl same ↦
      let is : line ≡ other = (bytes_eq-Decides line other).0 same in
      absurd (let wrong : true ≡ false = sym holds ∙ ap p is ∙ fails in cc)
  | inr differs ↦ differs
]

other-passes :
    (p : List ℕ → Bool) (line other : List ℕ) → p line ≡ false → p other ≡ true
    → bytes_eq line other ≡ false
other-passes p line other fails holds = elim (cases_Bool (bytes_eq line other)) [
  | inl same ↦
      let is : line ≡ other = (bytes_eq-Decides line other).0 same in
      absurd (let wrong : true ≡ false = sym holds ∙ ap p (sym is) ∙ fails in cc)
  | inr differs ↦ differs
]

among-filter :
    (p : List ℕ → Bool) (line : List ℕ) (known : List (List ℕ)) → p line ≡ true
    → is_among line (filter p known) ≡ is_among line known
among-filter p line [] holds = refl
among-filter p line (text ∷ known) holds = elim (cases_Bool (p text)) [
  | inl pass ↦ rw pass (ap (λ b. bytes_eq line text || b) (among-filter p line known holds))
  | inr fail ↦ rw (fail, same-passes p line text holds fail) (among-filter p line known holds)
]

filter-yes : (p : List ℕ → Bool) (known : List (List ℕ)) (line : List ℕ) → p line ≡ true
    → filter p known ++ line ∷ [] ≡ filter p (known ++ line ∷ [])
filter-yes p known line holds =
    sym (filter-append p known (line ∷ [])
    ∙ ap (λ b. filter p known ++ cond b (line ∷ []) []) holds)

filter-no : (p : List ℕ → Bool) (known : List (List ℕ)) (line : List ℕ) → p line ≡ false
    → filter p known ≡ filter p (known ++ line ∷ [])
filter-no p known line fails =
    sym (filter-append p known (line ∷ [])
    ∙ ap (λ b. filter p known ++ cond b (line ∷ []) []) fails ∙ append-nil (filter p known))

-- one more line, which passes or doesn't
module _
    (p : List ℕ → Bool) (known lines : List (List ℕ)) (line : List ℕ)
    (rest :
    (known : List (List ℕ))
    → with_new_lines (filter p known) (filter p lines) ≡ filter p (with_new_lines known lines))
  where
    with-passing :
        p line ≡ true
        → with_new_lines (filter p known) (line ∷ filter p lines)
        ≡ filter p (with_new_lines known (line ∷ lines))
    with-passing holds =
        let same = among-filter p line known holds in
        elim (cases_Bool (is_among line known)) [
          | inl old ↦
              ap (λ b. with_new_lines (if b then filter p known else filter p known ++ line ∷ [])
              (filter p lines)) (same ∙ old)
              ∙ rest known
              ∙ sym (ap (λ b. filter p (with_new_lines (if b then known else known ++ line ∷ []) lines)) old)
          | inr new ↦
              ap (λ b. with_new_lines (if b then filter p known else filter p known ++ line ∷ [])
              (filter p lines)) (same ∙ new)
              ∙ ap (λ known. with_new_lines known (filter p lines)) (filter-yes p known line holds)
              ∙ rest (known ++ line ∷ [])
              ∙ sym (ap (λ b. filter p (with_new_lines (if b then known else known ++ line ∷ []) lines)) new)
        ]

    with-failing :
        p line ≡ false
        → with_new_lines (filter p known) (filter p lines)
        ≡ filter p (with_new_lines known (line ∷ lines))
    with-failing fails = elim (cases_Bool (is_among line known)) [
      | inl old ↦
          rest known
          ∙ sym (ap (λ b. filter p (with_new_lines (if b then known else known ++ line ∷ []) lines)) old)
      | inr new ↦
          ap (λ known. with_new_lines known (filter p lines)) (filter-no p known line fails)
          ∙ rest (known ++ line ∷ [])
          ∙ sym (ap (λ b. filter p (with_new_lines (if b then known else known ++ line ∷ []) lines)) new)
    ]

with-filter :
    (p : List ℕ → Bool) (known lines : List (List ℕ))
    → with_new_lines (filter p known) (filter p lines) ≡ filter p (with_new_lines known lines)
with-filter p known [] = refl
with-filter p known (line ∷ lines) = elim (cases_Bool (p line)) [
  | inl holds ↦
      ap (λ b. with_new_lines (filter p known) (if b then line ∷ filter p lines else filter p lines)) holds
      ∙ with-passing p known lines line (λ known. with-filter p known lines) holds
  | inr fails ↦
      ap (λ b. with_new_lines (filter p known) (if b then line ∷ filter p lines else filter p lines)) fails
      ∙ with-failing p known lines line (λ known. with-filter p known lines) fails
]

twice :
    (known lines : List (List ℕ)) → distinct known ≡ known
    → distinct (with_new_lines known lines) ≡ with_new_lines known lines
twice known [] once = once
twice known (line ∷ lines) once = elim (cases_Bool (is_among line known)) [
  | inl old ↦ rw old (twice known lines once)
  | inr new ↦
      let put : with_new_lines known (line ∷ []) ≡ known ++ line ∷ []
      = ap (λ b. if b then known else known ++ line ∷ []) new in
      rw new (twice (known ++ line ∷ []) lines
      (with-append [] known (line ∷ []) ∙ ap (λ known. with_new_lines known (line ∷ [])) once ∙ put))
]

-- how often a line comes among those that pass
times-yes :
    (p : List ℕ → Bool) (line : List ℕ) (lines : List (List ℕ)) → p line ≡ true
    → times line (filter p lines) ≡ times line lines
times-yes p line [] holds = refl
times-yes p line (other ∷ lines) holds =
    let f : List ℕ → ℕ = λ other. cond (bytes_eq line other) 1 0 in
    let rest = times-yes p line lines holds in
    elim (cases_Bool (p other)) [
      | inl pass ↦ rw pass (omega (arith, rest, sum_by-cons f other (filter p lines), sum_by-cons f other lines))
      | inr fail ↦
          let none = ap {B = ℕ} (λ b. cond b 1 0) (same-passes p line other holds fail) in
          rw fail (omega (arith, rest, none, sum_by-cons f other lines))
    ]

times-no :
    (p : List ℕ → Bool) (line : List ℕ) (lines : List (List ℕ)) → p line ≡ false
    → times line (filter p lines) ≡ 0
times-no p line [] fails = refl
times-no p line (other ∷ lines) fails =
    let f : List ℕ → ℕ = λ other. cond (bytes_eq line other) 1 0 in
    let rest = times-no p line lines fails in
    elim (cases_Bool (p other)) [
      | inl pass ↦
          let none = ap {B = ℕ} (λ b. cond b 1 0) (other-passes p line other fails pass) in
          rw pass (omega (arith, rest, none, sum_by-cons f other (filter p lines)))
      | inr fail ↦ rw fail rest
    ]

map-filter :
    (p : List ℕ → Bool) (f g : List ℕ → ℕ) (known : List (List ℕ))
    → ((line : List ℕ) → p line ≡ true → f line ≡ g line)
    → map f (filter p known) ≡ map g (filter p known)
map-filter p f g [] same = refl
map-filter p f g (line ∷ known) same = elim (cases_Bool (p line)) [
  | inl holds ↦ rw holds (ap₂ (λ n ns. n ∷ ns) (same line holds) (map-filter p f g known same))
  | inr fails ↦ rw fails (map-filter p f g known same)
]

-- ---- what is kept of a tally

-- whether a line comes more often than so
abbrev is_above : (cut : ℕ) → (List ℕ → ℕ) → List ℕ → Bool
is_above cut f line = nat_lt cut (f line)

-- one line after another
pub kept-line :
    (cut : ℕ) (known : List (List ℕ)) (f : List ℕ → ℕ) (n : ℕ) (line : List ℕ) (told : ℕ)
    (text text' counts counts' : List ℕ) → n < length known → slice_get known n ≡ Some line
    → told ≡ f line → text ≡ text_of_lines (filter (is_above cut f) (take n known))
    → counts ≡ map f (filter (is_above cut f) (take n known))
    → text' ≡ text ++ (if nat_lt cut told then line ++ 10 ∷ [] else [])
    → counts' ≡ counts ++ (if nat_lt cut told then told ∷ [] else [])
    → (text' ≡ text_of_lines (filter (is_above cut f) (take (n + 1) known)))
    × (counts' ≡ map f (filter (is_above cut f) (take (n + 1) known)))
kept-line cut known f n line told text text' counts counts' less at is kept counted kept' counted' =
    of (nat_lt cut (f line)) (filter (is_above cut f) (take n known))
    (filter (is_above cut f) (take (n + 1) known)) kept counted
    (kept' ∙ ap (λ told. text ++ (if nat_lt cut told then line ++ 10 ∷ [] else [])) is)
    (counted' ∙ ap (λ told. counts ++ (if nat_lt cut told then told ∷ [] else [])) is)
    (filter_more (is_above cut f) known n line less
    ∙ ap (λ here. filter (is_above cut f) (take n known) ++ cond (is_above cut f here) (here ∷ []) [])
    (get_or_from_slice_get known n line line at))
  where
    of :
        (b : Bool) (front more : List (List ℕ)) → text ≡ text_of_lines front → counts ≡ map f front
        → text' ≡ text ++ cond b (line ++ 10 ∷ []) [] → counts' ≡ counts ++ cond b (f line ∷ []) []
        → more ≡ front ++ cond b (line ∷ []) []
        → (text' ≡ text_of_lines more) × (counts' ≡ map f more)
    of true front more was had put added grown = (
      put ∙ ap (λ text. text ++ (line ++ 10 ∷ [])) was
          ∙ sym (ap text_of_lines grown ∙ flat_map-append (λ line. line ++ 10 ∷ []) front (line ∷ [])
          ∙ ap (λ last. text_of_lines front ++ last) (append-nil (line ++ 10 ∷ []))),
      added ∙ ap (λ counts. counts ++ f line ∷ []) had
          ∙ sym (ap (map f) grown ∙ map-append f front (line ∷ [])),
    )
    of false front more was had put added grown = (
      put ∙ append-nil text ∙ was ∙ sym (ap text_of_lines (grown ∙ append-nil front)),
      added ∙ append-nil counts ∙ had ∙ sym (ap (map f) (grown ∙ append-nil front)),
    )

-- a catalog that these lines were entered in has them
pub kept-entered :
    (cut : ℕ) (lines known known' : List (List ℕ)) (counts text : List ℕ) → AreLines known
    → IsTally lines known counts → text ≡ text_of_lines (filter (comes_above cut lines) known)
    → known' ≡ with_new_lines [] (lines_in text) → known' ≡ distinct (filter (comes_above cut lines) known)
kept-entered cut lines known known' counts text are tally kept entered =
    entered ∙ ap (λ text. distinct (lines_in text)) kept
    ∙ ap distinct (text-lines (filter (comes_above cut lines) known)
    (All-filter (comes_above cut lines) IsInOneLine known are))

-- and they are those of a tally that came more often
pub tally-above :
    (cut : ℕ) (lines known known' : List (List ℕ)) (counts counts' : List ℕ)
    → IsTally lines known counts → known' ≡ distinct (filter (comes_above cut lines) known)
    → counts' ≡ map (λ line. times line lines) (filter (comes_above cut lines) known)
    → IsTally (lines_above cut lines) known' counts'
tally-above cut lines known known' counts counts' tally entered told =
    let p = comes_above cut lines in
    let left = lines_above cut lines in
    let same : filter p known ≡ distinct left
    = ap (filter p) tally.are ∙ sym (with-filter p [] lines) in
    let are : known' ≡ distinct left = entered ∙ ap distinct same ∙ twice [] left refl in
    record {
      are = are;
      told =
          told
          ∙ map-filter p (λ line. times line lines) (λ line. times line left) known
          (λ line holds. sym (times-yes p line lines holds))
          ∙ ap (map (λ line. times line left)) (same ∙ sym are);
    }

-- ---- how many are kept

count-map :
    (q : ℕ → Bool) (f : List ℕ → ℕ) (known : List (List ℕ))
    → count_by q (map f known) ≡ count_by (λ line. q (f line)) known
count-map q f [] = refl
count-map q f (line ∷ known) =
    omega (
      arith,
      count-map q f known,
      sum_by-cons (λ n. cond (q n) 1 0) (f line) (map f known),
      sum_by-cons (λ line. cond (q (f line)) 1 0) line known,
    )

-- half of the lines or fewer, if the cut is the middle one
pub half-kept :
    (cut : ℕ) (lines known known' : List (List ℕ)) (counts : List ℕ) → IsTally lines known counts
    → IsMiddle counts cut → known' ≡ distinct (filter (comes_above cut lines) known)
    → 2 * length known' ≤ length known
half-kept cut lines known known' counts tally middle entered =
    let of : List ℕ → ℕ = λ line. times line lines in
    let p = comes_above cut lines in
    let above : count_by (nat_lt cut) counts ≡ count_by p known
    = ap (count_by (nat_lt cut)) tally.told ∙ count-map (nat_lt cut) of known in
    omega (
      arith,
      middle.above,
      above,
      ap length tally.told,
      length-map known of,
      ap length entered,
      with-few [] (filter p known),
      length-filter p known,
    )

-- a line that doesn't pass goes as often as it comes
filter-less :
    (p : List ℕ → Bool) (line : List ℕ) (lines : List (List ℕ)) → p line ≡ false
    → length (filter p lines) + times line lines ≤ length lines
filter-less p line [] fails = omega arith
filter-less p line (other ∷ lines) fails =
    let f : List ℕ → ℕ = λ other. cond (bytes_eq line other) 1 0 in
    let rest = filter-less p line lines fails in
    let one = sum_by-cons f other lines in
    elim (cases_Bool (p other)) [
      | inl pass ↦
          let none = ap {B = ℕ} (λ b. cond b 1 0) (other-passes p line other fails pass) in
          rw pass (omega (arith, rest, one, none))
      | inr fail ↦ elim (cases_Bool (bytes_eq line other)) [
        | inl same ↦
            let is = ap {B = ℕ} (λ b. cond b 1 0) same in
            rw fail (omega (arith, rest, one, is))
        | inr differs ↦
            let is = ap {B = ℕ} (λ b. cond b 1 0) differs in
            rw fail (omega (arith, rest, one, is))
      ]
    ]

-- one of the counts is that of a line
line-of :
    (f : List ℕ → ℕ) (known : List (List ℕ)) (counts : List ℕ) (count : ℕ) → counts ≡ map f known
    → Contains counts count → (line : List ℕ) × (f line ≡ count)
line-of f known counts count told at =
    let less : at.0 < length known = omega (arith, at.1, ap length told, length-map known f) in (
      get_or known at.0 [],
      sym (get_or-map f known at.0 [] count less) ∙ ap (λ counts. get_or counts at.0 count) (sym told)
          ∙ at.2,
    )

-- of the lines so many go, at least, as the cut is
left-many :
    (cut : ℕ) (lines known : List (List ℕ)) (counts : List ℕ) → IsTally lines known counts
    → IsMiddle counts cut → length (lines_above cut lines) + cut ≤ length lines
left-many cut lines known counts tally middle =
    let p = comes_above cut lines in
    elim middle.one [
      | inl one ↦
          let found = line-of (λ line. times line lines) known counts cut tally.told one in
          let fails : p found.0 ≡ false = le-ltb cut (times found.0 lines) (omega (arith, found.1)) in
          omega (arith, filter-less p found.0 lines fails, found.1)
      | inr none ↦
          omega (arith, none.1, length-filter p lines, count_by-le-length p lines)
    ]

-- ---- some of all lines

part-more : (some : List (List ℕ)) (first : List ℕ) (all : List (List ℕ)) → ArePartOf some all
    → ArePartOf some (first ∷ all)
part-more [] first all part = tt
part-more (line ∷ some) first all part = inr part

part-all : (all : List (List ℕ)) → ArePartOf all all
part-all [] = tt
part-all (line ∷ all) = inl (refl, part-all all)

part-append : (some all block : List (List ℕ)) → ArePartOf some all
    → ArePartOf (some ++ block) (all ++ block)
part-append [] [] block part = part-all block
part-append [] (first ∷ all) block part =
    part-more block first (all ++ block) (part-append [] all block tt)
part-append (line ∷ some) [] block part = absurd part
part-append (line ∷ some) (first ∷ all) block part = elim part [
  | inl here ↦ inl (here.0, part-append some all block here.1)
  | inr there ↦ inr (part-append (line ∷ some) all block there)
]

part-filter : (p : List ℕ → Bool) (some all : List (List ℕ)) → ArePartOf some all
    → ArePartOf (filter p some) all
part-filter p [] all part = tt
part-filter p (line ∷ some) [] part = absurd part
part-filter p (line ∷ some) (first ∷ all) part = elim part [
  | inl here ↦
      let rest = part-filter p some all here.1 in
      elim (cases_Bool (p line)) [
        | inl holds ↦ rw holds (inl (here.0, rest))
        | inr fails ↦ rw fails (part-more (filter p some) first all rest)
      ]
  | inr there ↦
      part-more (filter p (line ∷ some)) first all (part-filter p (line ∷ some) all there)
]

-- ---- a tally of which lines are left out

pub within-none :
    (known : List (List ℕ)) (counts : List ℕ) → known ≡ [] → counts ≡ []
    → IsTallyWithin 0 [] known counts
within-none known counts none zero = record {
  counted = [];
  part = tt;
  left_out = λ line. omega arith;
  many = omega arith;
  tally = record { are = none; told = zero ∙ ap (map (λ line. times line [])) (sym none) };
}

pub within-entered :
    (missed : ℕ) (lines block known known' : List (List ℕ)) (counts counts' : List ℕ)
    → ((lines : List (List ℕ)) → IsTally lines known counts → IsTally (lines ++ block) known' counts')
    → IsTallyWithin missed lines known counts → IsTallyWithin missed (lines ++ block) known' counts'
within-entered missed lines block known known' counts counts' more within = record {
  counted = within.counted ++ block;
  part = part-append within.counted lines block within.part;
  left_out = λ line.
      omega (
        arith,
        within.left_out line,
        times-append line lines block,
        times-append line within.counted block,
      );
  many =
      omega (
        arith,
        within.many,
        length-append lines block,
        length-append within.counted block,
      );
  tally = more within.counted within.tally;
}

pub within-above :
    (missed cut : ℕ) (lines known known' : List (List ℕ)) (counts counts' : List ℕ)
    → IsMiddle counts cut
    → ((lines : List (List ℕ)) → IsTally lines known counts
    → IsTally (lines_above cut lines) known' counts')
    → IsTallyWithin missed lines known counts → IsTallyWithin (missed + cut) lines known' counts'
within-above missed cut lines known known' counts counts' middle less within =
    let p = comes_above cut within.counted in
    record {
      counted = lines_above cut within.counted;
      part = part-filter p within.counted lines within.part;
      left_out = λ line. elim (cases_Bool (p line)) [
        | inl holds ↦ omega (arith, within.left_out line, times-yes p line within.counted holds)
        | inr fails ↦
            omega (
              arith,
              within.left_out line,
              times-no p line within.counted fails,
              ltb-false cut (times line within.counted) fails,
            )
      ];
      many =
          omega (arith, within.many, left-many cut within.counted known counts within.tally middle);
      tally = less within.counted within.tally;
    }

-- no more lines have a count than there are,
pub within-few :
    (missed : ℕ) (lines known : List (List ℕ)) (counts : List ℕ)
    → IsTallyWithin missed lines known counts → length known ≤ length lines
within-few missed lines known counts within =
    omega (arith, within.many, ap length within.tally.are, with-few [] within.counted)

-- or distinct ones, also with a block,
pub within-distinct :
    (missed : ℕ) (lines block known : List (List ℕ)) (counts : List ℕ)
    → IsTallyWithin missed lines known counts
    → length (with_new_lines known block) ≤ length (distinct (lines ++ block))
within-distinct missed lines block known counts within =
    let all : distinct (within.counted ++ block) ≡ with_new_lines known block
    = with-append [] within.counted block
    ∙ ap (λ known. with_new_lines known block) (sym within.tally.are) in
    omega (
      arith,
      ap length all,
      part-few (within.counted ++ block) (lines ++ block) []
          (part-append within.counted lines block within.part),
    )

-- and where the middle count is missed, too, no more than that are missed
pub within-middle :
    (missed cut : ℕ) (lines known : List (List ℕ)) (counts : List ℕ) → IsMiddle counts cut
    → IsTallyWithin missed lines known counts → missed + cut ≤ length lines
within-middle missed cut lines known counts middle within =
    omega (arith, within.many, left-many cut within.counted known counts within.tally middle)

-- ---- bounds

part-times :
    (line : List ℕ) (some all : List (List ℕ)) → ArePartOf some all
    → times line some ≤ times line all
part-times line [] all part = omega arith
part-times line (other ∷ some) [] part = absurd part
part-times line (other ∷ some) (first ∷ all) part =
    let f : List ℕ → ℕ = λ other. cond (bytes_eq line other) 1 0 in
    elim part [
      | inl here ↦
          omega (
            arith,
            ap f here.0,
            part-times line some all here.1,
            sum_by-cons f other some,
            sum_by-cons f first all,
          )
      | inr there ↦
          omega (arith, part-times line (other ∷ some) all there, sum_by-cons f first all)
    ]

pub within-bounds :
    (missed : ℕ) (lines known : List (List ℕ)) (counts : List ℕ)
    → IsTallyWithin missed lines known counts → AreBounds missed lines known counts
within-bounds missed lines known counts within = record {
  least = λ place line at.
      omega (arith, count place line at, part-times line within.counted lines within.part);
  most = λ place line at. omega (arith, count place line at, within.left_out line);
  few = omega (arith, within.many);
  others = λ line out.
      let all = subst (λ known. All (λ line. is_among line known ≡ true) within.counted)
      (sym within.tally.are) (all-with [] within.counted) in
      omega (arith, never line known within.counted out all, within.left_out line);
}
  where
    count :
        (place : ℕ) (line : List ℕ) → slice_get known place ≡ Some line
        → slice_index counts place ≡ times line within.counted
    count place line at =
        ap (λ counts. slice_index counts place) within.tally.told
        ∙ index-map (λ line. times line within.counted) known place line at
