-- How often each line comes, counted by the places of lines.
use Rattle.std.proofs.Common.{◌≡◌, ◌∙◌, ◌+◌, ◌^◌, ◌<◌, ◌≤◌, ◌==◌, ℕ, zero, suc, Bool, true, false, cond, List, [], ◌∷◌, ◌++◌, All, Some, ap, ap₂, arith, drop, get_or, inl, inr, length, length-append, map, refl, subst, sym, take, zero-add}
use Rattle.std.specs.Prelude.{Contains, count_by, slice_get, slice_index}
use Rattle.std.proofs.lemmas.Bool.{cases_Bool, cases_lt, eq-eqb, eqb-true, or_left, or_right}
use Rattle.std.proofs.lemmas.List.{get_or_default, get_or_past, length-map, same_lists, take-append-drop}
use Rattle.std.proofs.lemmas.List.Elements.{All-cons, All-head, All-nil, All-tail, Contains-get_or}
use Rattle.std.proofs.lemmas.List.Sums.{count_by-le-length, count_by_more_yes, sum_by-append, sum_by-cons}
use Rattle.std.proofs.lemmas.Option.{slice_get_within}
use Rattle.std.proofs.lemmas.Slice.Eq.{bytes_eq-Decides}
use Rattle.core.specs.Str.{bytes_eq}
use Rattle.nb_texts.proofs.FindingLemmas.{among, get-left, get-push, not-among}
use Rattle.nb_texts.proofs.LinesLemmas.{with-append, with-grows}
use Rattle.nb_texts.specs.Lines.{is_among, with_new_lines}
use Rattle.nb_texts.specs.Tallies.{ComesTooOften, IsTally, times}

-- ---- no line is there twice

pub IsOnce : List (List ℕ) → Type 0
IsOnce texts =
    (i j : ℕ) (text : List ℕ) → slice_get texts i ≡ Some text → slice_get texts j ≡ Some text
    → i ≡ j

once-push :
    (texts : List (List ℕ)) (line : List ℕ) → IsOnce texts → is_among line texts ≡ false
    → IsOnce (texts ++ line ∷ [])
unfolding IsOnce
once-push texts line once new i j text at at' = elim (get-push texts line i text at) [
  | inl here ↦ elim (get-push texts line j text at') [
    | inl there ↦ once i j text here there
    | inr last ↦
        let is : is_among line texts ≡ true = among texts line i (here ∙ ap Some last.1) in
        absurd (let wrong : true ≡ false = sym is ∙ new in cc)
  ]
  | inr last ↦ elim (get-push texts line j text at') [
    | inl there ↦
        let is : is_among line texts ≡ true = among texts line j (there ∙ ap Some last.1) in
        absurd (let wrong : true ≡ false = sym is ∙ new in cc)
    | inr last' ↦ last.0 ∙ sym last'.0
  ]
]

once-with : (known lines : List (List ℕ)) → IsOnce known → IsOnce (with_new_lines known lines)
once-with known [] once = once
once-with known (line ∷ lines) once = elim (cases_Bool (is_among line known)) [
  | inl old ↦ rw old (once-with known lines once)
  | inr new ↦ rw new (once-with (known ++ line ∷ []) lines (once-push known line once new))
]

once-none : IsOnce []
unfolding IsOnce
once-none i j text at at' = absurd cc

-- ---- each line is there

among-left :
    (line : List ℕ) (texts more : List (List ℕ)) → is_among line texts ≡ true
    → is_among line (texts ++ more) ≡ true
among-left line [] more is = absurd cc
among-left line (text ∷ texts) more is = elim (cases_Bool (bytes_eq line text)) [
  | inl same ↦ or_left (bytes_eq line text) (is_among line (texts ++ more)) same
  | inr other ↦
      let rest : is_among line texts ≡ true = rw other at is in
      or_right (bytes_eq line text) (is_among line (texts ++ more)) (among-left line texts more rest)
]

among-last : (line : List ℕ) (texts : List (List ℕ)) → is_among line (texts ++ line ∷ []) ≡ true
among-last line [] =
    or_left (bytes_eq line line) false ((bytes_eq-Decides line line).1 refl)
among-last line (text ∷ texts) =
    or_right (bytes_eq line text) (is_among line (texts ++ line ∷ [])) (among-last line texts)

among-with :
    (line : List ℕ) (known lines : List (List ℕ)) → is_among line known ≡ true
    → is_among line (with_new_lines known lines) ≡ true
among-with line known lines is =
    let rest = with-grows known lines in
    subst (λ texts. is_among line texts ≡ true) (sym rest.1) (among-left line known rest.0 is)

pub all-with :
    (known lines : List (List ℕ))
    → All (λ line. is_among line (with_new_lines known lines) ≡ true) lines
all-with known [] = All-nil (λ line. is_among line known ≡ true)
all-with known (line ∷ lines) = elim (cases_Bool (is_among line known)) [
  | inl old ↦
      rw old (All-cons (λ line. is_among line (with_new_lines known lines) ≡ true) line lines
      (among-with line known lines old) (all-with known lines))
  | inr new ↦
      let known' = known ++ line ∷ [] in
      rw new (All-cons (λ line. is_among line (with_new_lines known' lines) ≡ true) line lines
      (among-with line known' lines (among-last line known)) (all-with known' lines))
]

-- a line that isn't there never came
pub never :
    (line : List ℕ) (texts lines : List (List ℕ)) → is_among line texts ≡ false
    → All (λ line. is_among line texts ≡ true) lines → times line lines ≡ 0
never line texts [] out all = refl
never line texts (other ∷ lines) out all = elim (cases_Bool (bytes_eq line other)) [
  | inl same ↦
      let is : line ≡ other = (bytes_eq-Decides line other).0 same in
      let there : is_among line texts ≡ true
      = ap (λ line. is_among line texts) is
      ∙ All-head (λ line. is_among line texts ≡ true) other lines all in
      absurd (let wrong : true ≡ false = sym there ∙ out in cc)
  | inr differs ↦
      let rest = never line texts lines out
      (All-tail (λ line. is_among line texts ≡ true) other lines all) in
      let none = ap {B = ℕ} (λ b. cond b 1 0) differs in
      omega (arith, rest, none, sum_by-cons (λ other. cond (bytes_eq line other) 1 0) other lines)
]

pub times-append :
    (line : List ℕ) (lines more : List (List ℕ))
    → times line (lines ++ more) ≡ times line lines + times line more
times-append line [] more = sym (zero-add (times line more))
times-append line (other ∷ lines) more =
    let f : List ℕ → ℕ = λ other. cond (bytes_eq line other) 1 0 in
    omega (
      arith,
      sum_by-cons f other (lines ++ more),
      sum_by-cons f other lines,
      times-append line lines more,
    )

-- ---- places and lines

-- a line comes as often as its place does
places-times :
    (texts : List (List ℕ)) (places : List ℕ) (lines : List (List ℕ)) (q : ℕ) (text : List ℕ)
    → IsOnce texts → slice_get texts q ≡ Some text → map (slice_get texts) places ≡ map Some lines
    → count_by (λ place. place == q) places ≡ times text lines
unfolding IsOnce
places-times texts [] [] q text once at are = refl
places-times texts [] (line ∷ lines) q text once at are = absurd cc
places-times texts (place ∷ places) [] q text once at are = absurd cc
places-times texts (place ∷ places) (line ∷ lines) q text once at are =
    let here : slice_get texts place ≡ Some line = cc in
    let rest : map (slice_get texts) places ≡ map Some lines = cc in
    let same : (place == q) ≡ bytes_eq text line = elim (cases_Bool (place == q)) [
      | inl is ↦
          let this : place ≡ q = eqb-true place q is in
          let both : Some text ≡ Some line = sym at ∙ ap (slice_get texts) (sym this) ∙ here in
          let eq : text ≡ line = cc in
          is ∙ sym ((bytes_eq-Decides text line).1 eq)
      | inr other ↦ elim (cases_Bool (bytes_eq text line)) [
        | inl eq ↦
            let is : text ≡ line = (bytes_eq-Decides text line).0 eq in
            let this : place ≡ q = once place q line here (at ∙ ap Some is) in
            absurd (let yes : true ≡ false = sym (eq-eqb place q this) ∙ other in cc)
        | inr differs ↦ other ∙ sym differs
      ]
    ] in
    let ones = ap {B = ℕ} (λ b. cond b 1 0) same in
    omega (
      arith,
      ones,
      places-times texts places lines q text once at rest,
      sum_by-cons (λ place. cond (place == q) 1 0) place places,
      sum_by-cons (λ line. cond (bytes_eq text line) 1 0) line lines,
    )

-- where a place was counted as often as can be, and is there once more, it comes too often
pub past-count :
    (counts counts' places : List ℕ) (i : ℕ) → i < length places → length counts' ≡ length counts
    → ((q : ℕ) → q < length counts'
    → slice_index counts' q ≡ slice_index counts q + count_by (λ place. place == q) (take i places))
    → slice_index counts' (get_or places i 0) ≡ 18446744073709551615
    → (q : ℕ) × Contains places q × (q < length counts
    → 2 ^ 64 ≤ slice_index counts q + count_by (λ place. place == q) places)
past-count counts counts' places i less long counted most =
    let q = get_or places i 0 in
    let test : ℕ → Bool = λ place. place == q in
    let one = count_by_more_yes test places i 0 less (eq-eqb q q refl) in
    let all : count_by test places
    ≡ count_by test (take (i + 1) places) + count_by test (drop (i + 1) places)
    = ap (count_by test) (sym (take-append-drop (i + 1) places))
    ∙ sum_by-append (λ place. cond (test place) 1 0) (take (i + 1) places) (drop (i + 1) places) in (
      q,
      Contains-get_or places i 0 less,
      λ within. omega (arith, counted q (omega (arith, within, long)), one, all, most),
    )

-- ---- a block is counted

get-there : (texts : List (List ℕ)) (q : ℕ) (d : List ℕ) → q < length texts
    → slice_get texts q ≡ Some (get_or texts q d)
get-there [] q d less = absurd (omega (arith, less))
get-there (text ∷ texts) zero d less = refl
get-there (text ∷ texts) (suc q) d less = get-there texts q d (omega (arith, less))

pub index-map : (f : List ℕ → ℕ) (texts : List (List ℕ)) (q : ℕ) (text : List ℕ)
    → slice_get texts q ≡ Some text → slice_index (map f texts) q ≡ f text
index-map f [] q text at = absurd cc
index-map f (t ∷ texts) zero text at = let same : t ≡ text = cc in ap f same
index-map f (t ∷ texts) (suc q) text at = index-map f texts q text at

module _
    (lines texts block texts' : List (List ℕ)) (counts : List ℕ)
    (tally : IsTally lines texts counts) (entered : texts' ≡ with_new_lines texts block)
  where
    all-once : IsOnce texts'
    all-once =
        subst IsOnce (sym (entered ∙ ap (λ texts. with_new_lines texts block) tally.are
        ∙ sym (with-append [] lines block))) (once-with [] (lines ++ block) once-none)

    -- what was counted before
    before : (q : ℕ) (text : List ℕ) → slice_get texts' q ≡ Some text
        → slice_index counts q ≡ times text lines
    unfolding IsOnce
    before q text at =
        let grown = with-grows texts block in
        elim (cases_lt q (length texts)) [
          | inl less ↦
              let here = get-there texts q text less in
              let there : slice_get texts' q ≡ Some (get_or texts q text)
              = ap (λ texts. slice_get texts q) (entered ∙ grown.1)
              ∙ get-left texts grown.0 q (get_or texts q text) here in
              let both : Some text ≡ Some (get_or texts q text) = sym at ∙ there in
              let same : get_or texts q text ≡ text = cc in
              ap (λ counts. slice_index counts q) tally.told
              ∙ index-map (λ line. times line lines) texts q text (here ∙ ap Some same)
          | inr past ↦
              let none : slice_index counts q ≡ 0
              = ap (λ counts. slice_index counts q) tally.told
              ∙ get_or_past (map (λ line. times line lines) texts) q 0
              (omega (arith, past, length-map texts (λ line. times line lines))) in
              let out : is_among text texts ≡ false
              = not-among texts text (λ i there.
              let same : i ≡ q = all-once i q text (ap (λ texts. slice_get texts i) (entered ∙ grown.1)
              ∙ get-left texts grown.0 i text there) at in
              let within = slice_get_within texts i text there in
              omega (arith, same, within, past)) in
              none ∙ sym (never text texts lines out
              (subst (λ texts. All (λ line. is_among line texts ≡ true) lines) (sym tally.are)
              (all-with [] lines)))
        ]

    -- there are no more counts than texts
    pub counts-few : length counts ≤ length texts'
    counts-few =
        let grown = with-grows texts block in
        omega (
          arith,
          ap length (entered ∙ grown.1),
          length-append texts grown.0,
          ap length tally.told,
          length-map texts (λ line. times line lines),
        )

-- the line at one of the places
line-at :
    (texts : List (List ℕ)) (q k : ℕ) (places : List ℕ) (lines : List (List ℕ))
    → map (slice_get texts) places ≡ map Some lines → k < length places → get_or places k q ≡ q
    → (line : List ℕ) × (slice_get texts q ≡ Some line) × Contains lines line
line-at texts q k [] lines are less is = absurd (omega (arith, less))
line-at texts q k (place ∷ places) [] are less is = absurd cc
line-at texts q zero (place ∷ places) (line ∷ lines) are less is =
    let here : slice_get texts place ≡ Some line = cc in
    (line, ap (slice_get texts) (sym is) ∙ here, (0, omega arith, refl))
line-at texts q (suc k) (place ∷ places) (line ∷ lines) are less is =
    let rest : map (slice_get texts) places ≡ map Some lines = cc in
    let found = line-at texts q k places lines rest (omega (arith, less)) is in
    let at = found.2 in
    (found.0, found.1, (suc at.0, omega (arith, at.1), at.2))

module _
    (lines texts block texts' : List (List ℕ)) (counts counts' places : List ℕ)
    (tally : IsTally lines texts counts) (entered : texts' ≡ with_new_lines texts block)
    (are : map (slice_get texts') places ≡ map Some block)
    (many : length counts' ≡ length texts')
  where
    -- where a count would be past the greatest one
    pub tally-often :
        (q : ℕ) → Contains places q → slice_index counts' q ≡ slice_index counts q
        → (q < length counts'
        → 2 ^ 64 ≤ slice_index counts' q + count_by (λ place. place == q) places)
        → ComesTooOften lines block
    tally-often q at same past =
        let found = line-at texts' q at.0 places block are at.1 at.2 in
        let within = slice_get_within texts' q found.0 found.1 in
        let over = past (omega (arith, within, many)) in
        let old = before lines texts block texts' counts tally entered q found.0 found.1 in
        let new = places-times texts' places block q found.0
        (all-once lines texts block texts' counts tally entered) found.1 are in
        (found.0, found.2, omega (arith, over, same, old, new, times-append found.0 lines block))

-- there are as many lines as one that comes too often
pub often-many :
    (lines block : List (List ℕ)) → ComesTooOften lines block → 2 ^ 64 ≤ length (lines ++ block)
often-many lines block often =
    omega (arith, often.2, count_by-le-length (bytes_eq often.0) (lines ++ block))

module _
    (lines texts block texts' : List (List ℕ)) (counts counts' places : List ℕ)
    (tally : IsTally lines texts counts) (entered : texts' ≡ with_new_lines texts block)
    (are : map (slice_get texts') places ≡ map Some block)
    (many : length counts' ≡ length texts')
    (counted :
    (q : ℕ) → q < length texts'
    → slice_index counts' q ≡ slice_index counts q + count_by (λ place. place == q) places)
  where
    pub tally-more : IsTally (lines ++ block) texts' counts'
    tally-more = record {
      are = entered ∙ ap (λ texts. with_new_lines texts block) tally.are
          ∙ sym (with-append [] lines block);
      told = same_lists counts' (map (λ line. times line (lines ++ block)) texts')
          (many ∙ sym (length-map texts' (λ line. times line (lines ++ block))))
          (λ q d less.
          let q-less : q < length texts' = omega (arith, less, many) in
          let text = get_or texts' q [] in
          let at = get-there texts' q [] q-less in
          let here : slice_index counts' q ≡ times text (lines ++ block)
          = counted q q-less
          ∙ ap₂ (λ m n. m + n) (before lines texts block texts' counts tally entered q text at)
          (places-times texts' places block q text
          (all-once lines texts block texts' counts tally entered) at are)
          ∙ sym (times-append text lines block) in
          get_or_default counts' q d 0 less ∙ here
          ∙ sym (index-map (λ line. times line (lines ++ block)) texts' q text at)
          ∙ sym (get_or_default (map (λ line. times line (lines ++ block)) texts') q d 0
          (omega (arith, q-less, length-map texts' (λ line. times line (lines ++ block))))));
    }
