-- What comes of a script, from what its workers did to its text.
use Rattle.std.proofs.Common.{◌≡◌, ◌∙◌, ◌<◌, ◌≤◌, ◌+◌, ℕ, zero, suc, List, [], ◌∷◌, ◌++◌, length, replicate, vec_capacity, ap, ap₂, sym, subst, refl, arith}
use Rattle.std.proofs.lemmas.List.{append_assoc, length-append, length-map, length-replicate}
use Rattle.std.proofs.lemmas.List.Elements.{All-cons, All-head, All-map, All-nil, All-push, All-same, All-tail}
use Rattle.std.proofs.lemmas.List.FromFn.{length-map-range_with_len}
use Rattle.std.specs.List.{All, flat_map}
use Rattle.std.specs.Prelude.{Result, Ok, Err, IfOk}
use Rattle.std.specs.FinMap.{entries, len-entries}
use Rattle.std.specs.declared.alloc.Global.{Global}
use Rattle.std.specs.declared.vec.Vec.{Vec}
use Rattle.nb_core.proofs.Seating.{All-unmap}
use Rattle.nb_core.specs.Log.{Numbers}
use Rattle.nb_core.specs.History.{IsLegal}
use Rattle.nb_core.specs.Plans.{IsPlan, Plan}
use Rattle.nb_map.specs.Ending.{EndedOf, EndedWith, HasTablesLeft, log_left, map_left}
use Rattle.nb_map.specs.Maps.{AreMine, IsMine, MapOf, SeatOf, new_seat, new_seats}
use Rattle.nb_runner.specs.Outcomes.{HaveWorkers, IsOutcome, lists_in, text_of_outcome}
use Rattle.nb_script.specs.Script.{Phase}
use Rattle.nb_runner.specs.Text.{ending, ending_of}
use Rattle.nb_runner.specs.Told.{ArePhasesTold, IsToldBy, WasCrowded, phase_text}
use Rattle.nb_runner.specs.Working.{AreNumbered, HasRoomForAnswers, HaveRun, HaveRunAll, all_answers, answers_of, commands_of, joined_answers, worker_seats}
use Rattle.nb_runner.specs.declared.answers.Answer.{Answer}
use Rattle.nb_runner.specs.declared.outcome.Outcome.{Outcome}
use Rattle.nb_runner.specs.declared.workers.Worker.{Worker}
use Rattle.nb_runner.proofs.LoneText.{lone-text}
use Rattle.nb_runner.proofs.OutputLemmas.{AreFirst, AreJoined, joined-answers, joined-lines}
use Rattle.nb_runner.proofs.PhaseLemmas.{AnswersFit, PhaseFits, answers-fit, answers-workers}
use Rattle.nb_runner.proofs.ToldLemmas.{told-phases}

-- ---- what is known of a value, by clause

pub IfOk-both :
    {T E : Type 0} (r : Result T E) (P Q R : T → Type 0) → ((x : T) → P x → Q x → R x)
    → IfOk r P → IfOk r Q → IfOk r R
IfOk-both (Ok x) P Q R f p q = f x p q
IfOk-both (Err e) P Q R f p q = tt

pub IfOk-three :
    {T E : Type 0} (r : Result T E) (P Q R S : T → Type 0) → ((x : T) → P x → Q x → R x → S x)
    → IfOk r P → IfOk r Q → IfOk r R → IfOk r S
IfOk-three (Ok x) P Q R S f p q r = f x p q r
IfOk-three (Err e) P Q R S f p q r = tt

-- ---- workers for the seats

-- the numbers count on
numbered-push :
    (n : ℕ) (workers : List Worker) (w : Worker) → AreNumbered n workers
    → w.number ≡ n + length workers → AreNumbered n (workers ++ w ∷ [])
numbered-push n [] w numbered is = (omega (arith, is), tt)
numbered-push n (v ∷ workers) w numbered is =
    (numbered.0, numbered-push (suc n) workers w numbered.1 (omega (arith, is)))

-- the worker has no answers yet
abbrev pub IsFresh : Worker → Type 0
IsFresh worker = worker.answers.items ≡ []

-- there is a worker for each seat but those that are left
pub record IsReadying (phases : List Phase) (seats left : List SeatOf) (workers : List Worker) :
    Type 0 where
  pub seated : seats ≡ worker_seats workers ++ left
  pub numbered : AreNumbered 0 workers
  pub room : All (HasRoomForAnswers phases) workers
  pub fresh : All IsFresh workers

-- one worker more
pub readying-more :
    (phases : List Phase) (seats left left' : List SeatOf) (workers : List Worker) (w : Worker)
    → IsReadying phases seats left' workers
    → left' ≡ w.seat ∷ left → w.number ≡ length workers → IsFresh w
    → length (flat_map (commands_of (length workers)) phases) ≤ vec_capacity w.answers
    → IsReadying phases seats left (workers ++ w ∷ [])
readying-more phases seats left left' workers w so_far is number fresh room = record {
  seated =
      so_far.seated ∙ ap (λ xs. worker_seats workers ++ xs) is
      ∙ sym (append_assoc (worker_seats workers) (w.seat ∷ []) left)
      ∙ ap (λ xs. xs ++ left) (sym (map-push workers));
  numbered = numbered-push 0 workers w so_far.numbered (omega (arith, number));
  room =
      All-push (HasRoomForAnswers phases) workers w so_far.room
      (omega (
        arith,
        room,
        ap length fresh,
        ap (λ n. length (flat_map (commands_of n) phases))
            number,
      ));
  fresh = All-push IsFresh workers w so_far.fresh fresh;
}
  where
    map-push : (vs : List Worker) → worker_seats (vs ++ w ∷ []) ≡ worker_seats vs ++ w.seat ∷ []
    map-push [] = refl
    map-push (v ∷ vs) = ap (λ xs. v.seat ∷ xs) (map-push vs)

-- while a seat is left, there are fewer workers than seats
pub readying-left :
    (phases : List Phase) (seats left left' : List SeatOf) (s : SeatOf) (workers : List Worker)
    → IsReadying phases seats left' workers
    → left' ≡ s ∷ left → length workers < length seats
readying-left phases seats left left' s workers so_far is =
    omega (
      arith,
      ap length so_far.seated,
      length-append (worker_seats workers) left',
      length-map workers (λ worker. worker.seat),
      ap length is,
    )

-- ---- seats and answers of the workers

-- the workers are parted but for those that are left
pub record IsRetiring (workers left : List Worker) (seats : List SeatOf)
    (answers : List (Vec Answer Global)) : Type 0 where
  pub seated : worker_seats workers ≡ seats ++ worker_seats left
  pub answered : answers_of workers ≡ lists_in answers ++ answers_of left

pub retiring-more :
    (workers left left' : List Worker) (w : Worker) (seats : List SeatOf)
    (answers : List (Vec Answer Global))
    → IsRetiring workers left' seats answers → left' ≡ w ∷ left
    → IsRetiring workers left (seats ++ w.seat ∷ []) (answers ++ w.answers ∷ [])
retiring-more workers left left' w seats answers so_far is = record {
  seated =
      so_far.seated ∙ ap (λ ws. seats ++ worker_seats ws) is
      ∙ sym (append_assoc seats (w.seat ∷ []) (worker_seats left));
  answered =
      so_far.answered ∙ ap (λ ws. lists_in answers ++ answers_of ws) is
      ∙ sym (append_assoc (lists_in answers) (w.answers.items ∷ []) (answers_of left))
      ∙ ap (λ xs. xs ++ answers_of left) (sym (push answers));
}
  where
    push : (vs : List (Vec Answer Global))
        → lists_in (vs ++ w.answers ∷ []) ≡ lists_in vs ++ w.answers.items ∷ []
    push [] = refl
    push (v ∷ vs) = ap (λ xs. v.items ∷ xs) (push vs)

pub retiring-left :
    (workers left left' : List Worker) (w : Worker) (seats : List SeatOf)
    (answers : List (Vec Answer Global))
    → IsRetiring workers left' seats answers → left' ≡ w ∷ left → (length seats < length workers)
    × (length answers < length workers)
retiring-left workers left left' w seats answers so_far is = (
  omega (
    arith,
    ap length so_far.seated,
    length-append seats (worker_seats left'),
    length-map workers (λ worker. worker.seat),
    length-map left' (λ worker. worker.seat),
    ap length is,
  ),
  omega (
    arith,
    ap length so_far.answered,
    length-append (lists_in answers) (answers_of left'),
    length-map answers (λ list. list.items),
    length-map workers (λ worker. worker.answers.items),
    length-map left' (λ worker. worker.answers.items),
    ap length is,
  ),
)

-- ---- the answers of all phases

count-joined : (xs ys : List (List Answer)) → length (joined_answers xs ys) ≡ length xs
count-joined [] ys = refl
count-joined (x ∷ xs) [] = refl
count-joined (x ∷ xs) (y ∷ ys) = ap suc (count-joined xs ys)

-- as many lists as workers
abbrev IsEach : ℕ → List (List Answer) → Type 0
IsEach n first = length first ≡ n

count-all :
    (n : ℕ) (answers : List (List (List Answer))) → All (IsEach n) answers
    → length (all_answers n answers) ≡ n
count-all n [] each = length-replicate n []
count-all n (first ∷ answers) each = count-joined first (all_answers n answers)
    ∙ All-head (IsEach n) first answers each

-- the lists of a phase, with others behind them
first-joined :
    (phase : Phase) (w : ℕ) (first rest : List (List Answer)) → PhaseFits phase w first
    → length first ≡ length rest
    → AreFirst phase w first rest (joined_answers first rest)
first-joined phase w [] [] fits many = tt
first-joined phase w [] (others ∷ rest) fits many = absurd (omega (arith, many))
first-joined phase w (mine ∷ first) [] fits many = absurd (omega (arith, many))
first-joined phase w (mine ∷ first) (others ∷ rest) fits many =
    (fits.0, refl, first-joined phase (suc w) first rest fits.1 (omega (arith, many)))

none-kept : (n : ℕ) → All (λ (mine : List Answer). mine ≡ []) (replicate n [])
none-kept zero = All-nil (λ (mine : List Answer). mine ≡ [])
none-kept (suc n) = All-cons (λ (mine : List Answer). mine ≡ []) [] (replicate n []) refl
    (none-kept n)

all-joined :
    (n : ℕ) (phases : List Phase) (answers : List (List (List Answer))) → AnswersFit phases answers
    → All (IsEach n) answers
    → AreJoined phases answers (all_answers n answers)
all-joined n [] [] fit each = none-kept n
all-joined n [] (first ∷ answers) fit each = absurd fit
all-joined n (phase ∷ phases) [] fit each = absurd fit
all-joined n (phase ∷ phases) (first ∷ answers) fit each =
    let later = All-tail (IsEach n) first answers each in (
      all_answers n answers,
      first-joined phase 0 first (all_answers n answers) fit.0
          (All-head (IsEach n) first answers each ∙ sym (count-all n answers later)),
      all-joined n phases answers fit.1 later,
    )

-- lists behind empty ones
joined-fresh :
    (workers : List Worker) (lists : List (List Answer)) → All IsFresh workers
    → length lists ≡ length workers
    → joined_answers (answers_of workers) lists ≡ lists
joined-fresh [] [] fresh many = refl
joined-fresh [] (mine ∷ lists) fresh many = absurd (omega (arith, many))
joined-fresh (w ∷ workers) [] fresh many = absurd (omega (arith, many))
joined-fresh (w ∷ workers) (mine ∷ lists) fresh many =
    ap₂ (λ begun rest. (begun ++ mine) ∷ rest) (All-head IsFresh w workers fresh)
    (joined-fresh workers lists (All-tail IsFresh w workers fresh) (omega (arith, many)))

-- Where the workers were fresh, what they answered are the answers of all phases.
run-joined :
    (m : MapOf) (phases : List Phase) (before after : List Worker) → All IsFresh before
    → (ran : HaveRunAll m phases before after)
    → AreJoined phases ran.answers (answers_of after)
run-joined m phases before after fresh ran =
    subst (AreJoined phases ran.answers)
    (sym (ran.kept ∙ joined-fresh before (all_answers n ran.answers) fresh
    (count-all n ran.answers each)))
    (all-joined n phases ran.answers (answers-fit m phases ran.answers (worker_seats before)
    (worker_seats after) ran.ran) each)
  where
    n : ℕ
    n = length before

    each : All (IsEach n) ran.answers
    each = subst (λ k. All (IsEach k) ran.answers) (length-map before (λ worker. worker.seat))
        (answers-workers m phases ran.answers (worker_seats before) (worker_seats after) ran.ran)

-- as many workers as before
pub run-count :
    (m : MapOf) (phases : List Phase) (before after : List Worker)
    → HaveRunAll m phases before after → length after ≡ length before
run-count m phases before after ran =
    sym (length-map after (λ worker. worker.answers.items)) ∙ ap length ran.kept
    ∙ count-joined (answers_of before) (all_answers (length before) ran.answers)
    ∙ length-map before (λ worker. worker.answers.items)

-- ---- the map's seats

-- the seats that a map is made with are its own, and so the workers'
pub workers-mine :
    (m : MapOf) (seats : List SeatOf) (workers : List Worker) → worker_seats workers ≡ seats
    → AreMine m seats → All (λ worker. IsMine m worker.seat) workers
workers-mine m seats workers are mine =
    All-unmap (IsMine m) (λ worker. worker.seat) workers
    (All-same (IsMine m) (worker_seats workers) seats are mine)

-- and all of them, after the run
pub run-mine :
    (m : MapOf) (phases : List Phase) (before after : List Worker)
    → HaveRunAll m phases before after → AreMine m (worker_seats after)
run-mine m phases before after ran = All-map (IsMine m) (λ worker. worker.seat) after ran.own

pub run-all :
    (m : MapOf) (phases : List Phase) (before after : List Worker) (count : ℕ)
    → worker_seats before ≡ new_seats m count
    → HaveRunAll m phases before after → length (worker_seats after) ≡ count
run-all m phases before after count are ran =
    length-map after (λ worker. worker.seat) ∙ run-count m phases before after ran
    ∙ sym (length-map before (λ worker. worker.seat))
    ∙ ap length are ∙ length-map-range_with_len (new_seat m) 0 count

-- ---- the text

ending-same :
    (m : Numbers) (size : ℕ) (es : List (ℕ × ℕ)) → size ≡ length (entries m) → es ≡ entries m
    → ending_of size es ≡ ending m
ending-same m size es count are = ap₂ ending_of (count ∙ sym (len-entries m)) are

-- What the workers did on a new map, and what was left of it, are what a text may tell.
pub is-outcome :
    (m : MapOf) → IsPlan m.chain.shape → (phases : List Phase)
    (before after : List Worker) (ended : EndedOf) (o : Outcome)
    → worker_seats before ≡ new_seats m m.chain.shape.seats → All IsFresh before
    → HaveRunAll m phases before after → EndedWith (worker_seats after) ended
    → HasTablesLeft m.chain.shape (worker_seats after) ended
    → lists_in o.answers.items ≡ answers_of after → o.size ≡ length (entries (map_left ended))
    → o.entries.items ≡ entries (map_left ended) → IsOutcome m.chain.shape phases o
is-outcome m plan phases before after ended o are fresh ran end left answers size kept = record {
  few =
      omega (
        arith,
        ap length answers,
        length-map o.answers.items (λ list. list.items),
        length-map after (λ worker. worker.answers.items),
        length-map after (λ worker. worker.seat),
        run-all m phases before after p.seats are ran,
        plan.seats,
      );
  answered = joined-answers phases ran.answers (lists_in o.answers.items) in_lists;
  history = ended.tables.history;
  told = told;
  lone = λ single below.
      lone-text p plan single phases (subst (λ n. HaveWorkers n phases) single below)
      ended.tables.history (text_of_outcome phases o) told;
}
  where
    p : Plan
    p = m.chain.shape

    from_new : HaveRun m phases ran.answers (new_seats m p.seats) (worker_seats after)
    from_new = subst (λ seats. HaveRun m phases ran.answers seats (worker_seats after)) are ran.ran

    in_lists : AreJoined phases ran.answers (lists_in o.answers.items)
    in_lists = subst (AreJoined phases ran.answers) (sym answers)
        (run-joined m phases before after fresh ran)

    count : length (worker_seats after) ≡ p.seats
    count = run-all m phases before after p.seats are ran

    made : All (λ entry. entry.seat < p.seats) (log_left ended)
    made = subst (λ n. All (λ entry. entry.seat < n) (log_left ended)) count end.made

    by_phases : ArePhasesTold (WasCrowded p ended.tables.history) [] phases ran.answers []
        (log_left ended) × All (IsEach p.seats) ran.answers
    by_phases = told-phases m plan phases ran.answers (worker_seats after) ended from_new end left made

    text : text_of_outcome phases o ≡ flat_map (phase_text 0) ran.answers ++ ending (map_left ended)
    text =
        ap₂ (λ lines last. lines ++ last)
        (joined-lines phases ran.answers (lists_in o.answers.items) in_lists)
        (ending-same (map_left ended) o.size o.entries.items size kept)

    told : IsToldBy p phases ended.tables.history (text_of_outcome phases o)
    told = record {
      legal = subst (λ q. IsLegal q ended.tables.history) left.shape left.left.legal;
      replayed = end.replayed;
      workers = made;
      answers = ran.answers;
      each = by_phases.1;
      told = by_phases.0;
      is = text;
    }
