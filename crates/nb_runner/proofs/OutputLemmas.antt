-- The lines of the output, from each worker's answers in one list, and what is left of the lists
-- phase by phase.
use Rattle.std.proofs.Common.{◌≡◌, ◌∙◌, ℕ, zero, suc, ◌+◌, ◌-◌, ◌<◌, ◌≤◌, List, [], ◌∷◌, ◌++◌, Some, None, All, ap, ap₂, sym, refl, length, drop, take, map, get_or, add-one, arith, length-append, slice_get, slice_index, slice_set, replicate, inl, inr}
use Rattle.std.specs.List.{flat_map}
use Rattle.std.proofs.Math.Seq.{drop-append_seam, drop-cons, take-append_seam}
use Rattle.std.proofs.lemmas.Bool.{cases_eq}
use Rattle.std.proofs.lemmas.List.Elements.{All-head, All-tail}
use Rattle.std.proofs.lemmas.List.{drop-drop, get_or-set_other, get_or-set_same}
use Rattle.nb_runner.specs.Output.{AreAnswersOf, after_phase, all_lines, left, phase_lines}
use Rattle.nb_script.specs.Script.{Bytes, Phase}
use Rattle.nb_runner.specs.Text.{answer_line}
use Rattle.nb_runner.specs.Told.{phase_text}
use Rattle.nb_runner.specs.Working.{commands_of}
use Rattle.nb_runner.specs.declared.answers.Answer.{Answer}

-- ---- what is left of the lists

-- before any are said
pub none-done : (n k : ℕ) → slice_index (replicate n 0) k ≡ 0
none-done zero k = refl
none-done (suc n) zero = refl
none-done (suc n) (suc k) = none-done n k

pub left-all :
    (done : List ℕ) (w : ℕ) (lists : List (List Answer)) → ((k : ℕ) → slice_index done k ≡ 0)
    → left done w lists ≡ lists
left-all done w [] none = refl
left-all done w (mine ∷ others) none = ap₂ (λ n rest. drop n mine ∷ rest) (none w)
    (left-all done (suc w) others none)

-- once those of a phase are said too
pub left-after :
    (phase : Phase) (before after : List ℕ) (w : ℕ) (lists : List (List Answer))
    → ((k : ℕ) → w ≤ k → k < w + length lists
    → slice_index after k ≡ slice_index before k + length (commands_of k phase))
    → after_phase phase w (left before w lists) ≡ left after w lists
left-after phase before after w [] more = refl
left-after phase before after w (mine ∷ others) more =
    ap₂ (λ first rest. first ∷ rest)
    (drop-drop (length (commands_of w phase)) (slice_index before w) mine
    ∙ ap (λ n. drop n mine) (sym (more w (omega arith) (omega arith))))
    (left-after phase before after (suc w) others
    (λ k above below. more k (omega (arith, above)) (omega (arith, below))))

-- so many answers as commands: at each place
pub answers-at :
    (phases : List Phase) (w : ℕ) (lists : List (List Answer)) → AreAnswersOf phases w lists
    → (k : ℕ) (mine : List Answer) → slice_get lists k ≡ Some mine
    → (v : ℕ) → v ≡ w + k → length (flat_map (commands_of v) phases) ≡ length mine
answers-at phases w [] all k mine at v is = let bad : None ≡ Some mine = at in cc
answers-at phases w (first ∷ others) all zero mine at v is =
    let some : Some first ≡ Some mine = at in
    let same : first ≡ mine = cc in
    ap (λ n. length (flat_map (commands_of n) phases)) (omega (arith, is)) ∙ sym all.0
    ∙ ap length same
answers-at phases w (first ∷ others) all (suc k) mine at v is =
    answers-at phases (suc w) others all.1 k mine at v (omega (arith, is))

-- ---- worker by worker, and phase by phase

-- the part of a list that is said
part-is :
    (w first start count n : ℕ) (all items : List Answer) → first ≡ start → count ≡ n → all ≡ items
    → flat_map (answer_line w) (take (first + count - first) (drop first all))
    ≡ flat_map (answer_line w) (take n (drop start items))
part-is w first start count n all items at so_many same =
    ap₂ (λ k list. flat_map (answer_line w) (take k list)) (omega (arith, so_many))
    (ap₂ drop at same)

-- one more worker has said its answers of the phase
module _ (before now : List ℕ) (i end : ℕ) where
  pub done-more :
      (count : ℕ → ℕ) → i < length now → end ≡ slice_index before i + count i
      → ((w : ℕ) → w < i → slice_index now w ≡ slice_index before w + count w)
      → (w : ℕ) → w < i + 1 → slice_index (slice_set now i end) w ≡ slice_index before w + count w
  done-more count within is earlier w below = elim (cases_eq w i) [
    | inl here ↦
        ap (slice_index (slice_set now i end)) here ∙ get_or-set_same now i end 0 within ∙ is
        ∙ sym (ap (λ k. slice_index before k + count k) here)
    | inr other ↦ get_or-set_other now i w end 0 other ∙ earlier w (omega (arith, other, below))
  ]

  pub done-rest :
      ((w : ℕ) → i ≤ w → slice_index now w ≡ slice_index before w)
      → (w : ℕ) → i + 1 ≤ w → slice_index (slice_set now i end) w ≡ slice_index before w
  done-rest later w above = get_or-set_other now i w end 0
      (λ same. absurd (omega (arith, same, above))) ∙ later w (omega (arith, above))

module _ {V : Type 0} (f : V → List Answer) (phase : Phase) (done : List ℕ) (vs : List V) where
  abbrev Lines : ℕ → Bytes
  Lines i = phase_lines phase i (left done i (map f (drop i vs)))

  lines-next :
      (i : ℕ) (v : V) → i < length vs → v ≡ get_or vs i v
      → Lines i ≡ flat_map (answer_line i)
      (take (length (commands_of i phase)) (drop (slice_index done i) (f v))) ++ Lines (i + 1)
  lines-next i v below is =
      let mine : Bytes = flat_map (answer_line i)
      (take (length (commands_of i phase)) (drop (slice_index done i) (f v))) in
      ap (λ us. phase_lines phase i (left done i (map f us))) (drop-cons vs i v below
      ∙ ap (λ u. u ∷ drop (suc i) vs) (sym is))
      ∙ ap (λ n. mine ++ Lines n) (sym (add-one i))

  -- the same, where the part that is said is named by other values
  pub lines-handed :
      (i first count : ℕ) (v : V) (all : List Answer) → i < length vs → v ≡ get_or vs i v
      → first ≡ slice_index done i → count ≡ length (commands_of i phase) → all ≡ f v
      → Lines i
      ≡ flat_map (answer_line i) (take (first + count - first) (drop first all)) ++ Lines (i + 1)
  lines-handed i first count v all below is at so_many same =
      lines-next i v below is
      ∙ ap (λ bytes. bytes ++ Lines (i + 1)) (sym (part-is i first (slice_index done i) count
      (length (commands_of i phase)) all (f v) at so_many same))

module _ {V : Type 0} (f : V → Phase) (vs : List V) where
  rest-next : (i : ℕ) (v : V) → i < length vs → v ≡ get_or vs i v
      → map f (drop i vs) ≡ f v ∷ map f (drop (i + 1) vs)
  rest-next i v below is =
      ap (map f) (drop-cons vs i v below ∙ ap (λ u. u ∷ drop (suc i) vs) (sym is))
      ∙ ap (λ n. f v ∷ map f (drop n vs)) (sym (add-one i))

  pub phases-next :
      (lists lists' : List (List Answer)) (i : ℕ) (v : V) → i < length vs → v ≡ get_or vs i v
      → after_phase (f v) 0 lists ≡ lists'
      → all_lines (map f (drop i vs)) lists ≡ phase_lines (f v) 0 lists
      ++ all_lines (map f (drop (i + 1) vs)) lists'
  phases-next lists lists' i v below is after =
      ap (λ phases. all_lines phases lists) (rest-next i v below is)
      ∙ ap (λ ls. phase_lines (f v) 0 lists ++ all_lines (map f (drop (i + 1) vs)) ls) after

  -- a worker's commands from a phase on are those of the phase, and the rest
  pub count-next :
      (w i : ℕ) (v : V) → i < length vs → v ≡ get_or vs i v
      → length (flat_map (commands_of w) (map f (drop i vs)))
      ≡ length (commands_of w (f v)) + length (flat_map (commands_of w) (map f (drop (i + 1) vs)))
  count-next w i v below is =
      ap (λ phases. length (flat_map (commands_of w) phases)) (rest-next i v below is)
      ∙ length-append (commands_of w (f v)) (flat_map (commands_of w) (map f (drop (i + 1) vs)))

-- ---- the answers of each phase, and those of all

-- the lists of the workers from number w on are those of this phase, and then the rest
abbrev pub AreFirst : Phase → (w : ℕ) → (first rest whole : List (List Answer)) → Type 0
AreFirst phase w [] [] [] = Unit {0}
AreFirst phase w (mine ∷ first) (others ∷ rest) (all ∷ whole) =
    (length mine ≡ length (commands_of w phase)) × (all ≡ mine ++ others)
    × AreFirst phase (suc w) first rest whole
AreFirst phase w _ _ _ = ⊥

-- worker by worker, the answers of the phases make these lists
abbrev pub AreJoined :
    List Phase → List (List (List Answer)) → (whole : List (List Answer)) → Type 0
AreJoined [] [] whole = All (λ mine. mine ≡ []) whole
AreJoined [] (first ∷ answers) whole = ⊥
AreJoined (phase ∷ phases) [] whole = ⊥
AreJoined (phase ∷ phases) (first ∷ answers) whole =
    (rest : List (List Answer)) × AreFirst phase 0 first rest whole × AreJoined phases answers rest

take-seam : (xs ys : List Answer) (n : ℕ) → length xs ≡ n → take n (xs ++ ys) ≡ xs
take-seam xs ys n is = ap (λ m. take m (xs ++ ys)) (sym is) ∙ take-append_seam xs ys

drop-seam : (xs ys : List Answer) (n : ℕ) → length xs ≡ n → drop n (xs ++ ys) ≡ ys
drop-seam xs ys n is = ap (λ m. drop m (xs ++ ys)) (sym is) ∙ drop-append_seam xs ys

first-lines :
    (phase : Phase) (w : ℕ) (first rest whole : List (List Answer))
    → AreFirst phase w first rest whole
    → (phase_lines phase w whole ≡ phase_text w first) × (after_phase phase w whole ≡ rest)
first-lines phase w [] [] [] h = (refl, refl)
first-lines phase w (mine ∷ first) (others ∷ rest) (all ∷ whole) h =
    let next = first-lines phase (suc w) first rest whole h.2 in
    let n = length (commands_of w phase) in (
      ap₂ (λ answers text. flat_map (answer_line w) answers ++ text) (ap (take n) h.1
          ∙ take-seam mine others n h.0) next.0,
      ap₂ (λ answers lists. answers ∷ lists) (ap (drop n) h.1 ∙ drop-seam mine others n h.0) next.1,
    )
first-lines phase w [] [] (all ∷ whole) h = absurd h
first-lines phase w [] (others ∷ rest) whole h = absurd h
first-lines phase w (mine ∷ first) [] whole h = absurd h
first-lines phase w (mine ∷ first) (others ∷ rest) [] h = absurd h

-- The lines are the text of each phase's answers.
pub joined-lines :
    (phases : List Phase) (answers : List (List (List Answer))) (whole : List (List Answer))
    → AreJoined phases answers whole
    → all_lines phases whole ≡ flat_map (phase_text 0) answers
joined-lines [] [] whole h = refl
joined-lines [] (first ∷ answers) whole h = absurd h
joined-lines (phase ∷ phases) [] whole h = absurd h
joined-lines (phase ∷ phases) (first ∷ answers) whole h =
    let now = first-lines phase 0 first h.0 whole h.1 in
    ap₂ (λ text lists. text ++ all_lines phases lists) now.0 now.1
    ∙ ap (λ text. phase_text 0 first ++ text) (joined-lines phases answers h.0 h.2)

first-answers :
    (phase : Phase) (phases : List Phase) (w : ℕ) (first rest whole : List (List Answer))
    → AreFirst phase w first rest whole
    → AreAnswersOf phases w rest → AreAnswersOf (phase ∷ phases) w whole
first-answers phase phases w [] [] [] h later = tt
first-answers phase phases w (mine ∷ first) (others ∷ rest) (all ∷ whole) h later = (
  omega (
    arith,
    h.0,
    later.0,
    ap length h.1,
    length-append mine others,
    length-append (commands_of w phase) (flat_map (commands_of w) phases),
  ),
  first-answers phase phases (suc w) first rest whole h.2 later.1,
)
first-answers phase phases w [] [] (all ∷ whole) h later = absurd h
first-answers phase phases w [] (others ∷ rest) whole h later = absurd h
first-answers phase phases w (mine ∷ first) [] whole h later = absurd h
first-answers phase phases w (mine ∷ first) (others ∷ rest) [] h later = absurd h

no-answers :
    (w : ℕ) (whole : List (List Answer)) → All (λ mine. mine ≡ []) whole → AreAnswersOf [] w whole
no-answers w [] none = tt
no-answers w (mine ∷ whole) none = (
  ap length (All-head (λ mine. mine ≡ []) mine whole none),
  no-answers (suc w) whole (All-tail (λ mine. mine ≡ []) mine whole none),
)

-- Each worker has as many answers as commands.
pub joined-answers :
    (phases : List Phase) (answers : List (List (List Answer))) (whole : List (List Answer))
    → AreJoined phases answers whole → AreAnswersOf phases 0 whole
joined-answers [] [] whole h = no-answers 0 whole h
joined-answers [] (first ∷ answers) whole h = absurd h
joined-answers (phase ∷ phases) [] whole h = absurd h
joined-answers (phase ∷ phases) (first ∷ answers) whole h =
    first-answers phase phases 0 first h.0 whole h.1 (joined-answers phases answers h.0 h.2)
