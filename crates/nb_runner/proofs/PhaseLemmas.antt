-- Workers run a script's phases, one after another.
use Rattle.std.proofs.Common.{◌≡◌, ◌∙◌, ℕ, suc, ◌+◌, ◌<◌, ◌≤◌, List, [], ◌∷◌, ◌++◌, length, drop, get_or, replicate, ap, sym, subst, refl, arith, vec_capacity, zero}
use Rattle.std.proofs.lemmas.List.{append-nil, append_assoc, drop_all, drop_more, get_or-map, length-append, length-map}
use Rattle.std.proofs.lemmas.List.Elements.{All-cons, All-nil, length_all_zip}
use Rattle.std.specs.List.{All, AllZip, flat_map}
use Rattle.std.specs.declared.alloc.Global.{Global}
use Rattle.std.specs.declared.vec.Vec.{Vec}
use Rattle.nb_map.specs.Maps.{IsMine, MapOf, SeatOf}
use Rattle.nb_script.specs.Script.{Phase}
use Rattle.nb_runner.specs.Working.{AreAnswered, AreNumbered, HasMetAll, HasMetAs, HasRoomForAnswers, HaveRun, HaveRunAll, IsReadyFor, IsRun, PhaseRan, all_answers, answers_of, commands_of, joined_answers, phases_in, worker_seats}
use Rattle.nb_runner.specs.declared.answers.Answer.{Answer}
use Rattle.nb_script.specs.declared.script.Command.{Command}
use Rattle.nb_runner.specs.declared.workers.Worker.{Worker}
use Rattle.nb_runner.proofs.Together.{all-zip-all, all-zip-right}

-- ---- as many answers as commands

-- there are as many answers of each worker from number w on as it has commands of the phase
abbrev pub PhaseFits : Phase → (w : ℕ) → List (List Answer) → Type 0
PhaseFits phase w [] = Unit {0}
PhaseFits phase w (mine ∷ others) = (length mine ≡ length (commands_of w phase))
    × PhaseFits phase (suc w) others

-- the same of each phase
abbrev pub AnswersFit : List Phase → List (List (List Answer)) → Type 0
AnswersFit [] [] = Unit {0}
AnswersFit [] (first ∷ answers) = ⊥
AnswersFit (phase ∷ phases) [] = ⊥
AnswersFit (phase ∷ phases) (first ∷ answers) = PhaseFits phase 0 first × AnswersFit phases answers

pub as-many-answers :
    (m : MapOf) (cs : List Command) (answers : List Answer) (before after : SeatOf)
    → AreAnswered m cs answers before after
    → length answers ≡ length cs
as-many-answers m [] [] before after answered = refl
as-many-answers m [] (a ∷ answers) before after answered = absurd answered
as-many-answers m (c ∷ cs) [] before after answered = absurd answered
as-many-answers m (c ∷ cs) (a ∷ answers) before after answered =
    ap suc (as-many-answers m cs answers answered.0 after answered.2)

phase-fits :
    (m : MapOf) (phase : Phase) (w : ℕ) (answers : List (List Answer)) (before after : List SeatOf)
    → PhaseRan m phase w answers before after → PhaseFits phase w answers
phase-fits m phase w [] before after ran = tt
phase-fits m phase w (mine ∷ others) [] after ran = absurd ran
phase-fits m phase w (mine ∷ others) (s ∷ before) [] ran = absurd ran
phase-fits m phase w (mine ∷ others) (s ∷ before) (t ∷ after) ran = (
  as-many-answers m (commands_of w phase) mine s t ran.0,
  phase-fits m phase (suc w) others before after ran.1,
)

-- where the phases have run, the answers are as many as the commands
pub answers-fit :
    (m : MapOf) (phases : List Phase) (answers : List (List (List Answer)))
    (before after : List SeatOf)
    → HaveRun m phases answers before after → AnswersFit phases answers
answers-fit m [] [] before after ran = tt
answers-fit m [] (first ∷ answers) before after ran = absurd ran
answers-fit m (phase ∷ phases) [] before after ran = absurd ran
answers-fit m (phase ∷ phases) (first ∷ answers) before after (apart, next, now, met, later) =
    (phase-fits m phase 0 first before apart now, answers-fit m phases answers next after later)

-- in a phase that has run, each worker has its answers
phase-workers :
    (m : MapOf) (phase : Phase) (w : ℕ) (answers : List (List Answer)) (before after : List SeatOf)
    → PhaseRan m phase w answers before after → (length answers ≡ length before)
    × (length after ≡ length before)
phase-workers m phase w [] [] [] ran = (refl, refl)
phase-workers m phase w [] [] (t ∷ after) ran = absurd ran
phase-workers m phase w [] (s ∷ before) after ran = absurd ran
phase-workers m phase w (mine ∷ others) [] after ran = absurd ran
phase-workers m phase w (mine ∷ others) (s ∷ before) [] ran = absurd ran
phase-workers m phase w (mine ∷ others) (s ∷ before) (t ∷ after) ran =
    let rest = phase-workers m phase (suc w) others before after ran.1 in
    (ap suc rest.0, ap suc rest.1)

-- and so in all phases
pub answers-workers :
    (m : MapOf) (phases : List Phase) (answers : List (List (List Answer)))
    (before after : List SeatOf)
    → HaveRun m phases answers before after → All (λ first. length first ≡ length before) answers
answers-workers m [] [] before after ran = All-nil (λ first. length first ≡ length before)
answers-workers m [] (first ∷ answers) before after ran = absurd ran
answers-workers m (phase ∷ phases) [] before after ran = absurd ran
answers-workers m (phase ∷ phases) (first ∷ answers) before after (apart, next, now, met, later) =
    let many = phase-workers m phase 0 first before apart now in
    let same = sym (length_all_zip (HasMetAll m apart) apart next met) ∙ many.1 in
    All-cons (λ first. length first ≡ length before) first answers many.0
    (subst (λ n. All (λ first. length first ≡ n) answers) same
    (answers-workers m phases answers next after later))

-- ---- answers joined

pub joined-assoc :
    (xs ys zs : List (List Answer)) → length ys ≡ length xs
    → joined_answers (joined_answers xs ys) zs ≡ joined_answers xs (joined_answers ys zs)
joined-assoc [] ys zs many = refl
joined-assoc (x ∷ xs) [] zs many = absurd (omega (arith, many))
joined-assoc (x ∷ xs) (y ∷ ys) [] many = refl
joined-assoc (x ∷ xs) (y ∷ ys) (z ∷ zs) many =
    ap (λ w. w ∷ joined_answers (joined_answers xs ys) zs) (append_assoc x y z)
    ∙ ap (λ ws. (x ++ (y ++ z)) ∷ ws) (joined-assoc xs ys zs (omega (arith, many)))

-- no answers more
pub joined-none : (xs : List (List Answer)) (n : ℕ) → joined_answers xs (replicate n []) ≡ xs
joined-none [] n = refl
joined-none (x ∷ xs) zero = refl
joined-none (x ∷ xs) (suc n) = ap (λ y. y ∷ joined_answers xs (replicate n [])) (append-nil x)
    ∙ ap (λ ys. x ∷ ys) (joined-none xs n)

-- ---- one phase

module _ (m : MapOf) (phase : Phase) where
  -- what the workers were answered in the phase
  abbrev gathered : (before after : List Worker) → AllZip (IsRun m phase) before after
      → List (List Answer)
  gathered [] [] all = []
  gathered [] (v ∷ after) all = []
  gathered (w ∷ before) [] all = []
  gathered (w ∷ before) (v ∷ after) all = all.0.1.answers ∷ gathered before after all.1

  gathered-many :
      (before after : List Worker) (all : AllZip (IsRun m phase) before after)
      → length (gathered before after all) ≡ length before
  gathered-many [] [] all = refl
  gathered-many [] (v ∷ after) all = absurd all
  gathered-many (w ∷ before) [] all = absurd all
  gathered-many (w ∷ before) (v ∷ after) all = ap suc (gathered-many before after all.1)

  gathered-kept :
      (before after : List Worker) (all : AllZip (IsRun m phase) before after)
      → answers_of after ≡ joined_answers (answers_of before) (gathered before after all)
  gathered-kept [] [] all = refl
  gathered-kept [] (v ∷ after) all = absurd all
  gathered-kept (w ∷ before) [] all = absurd all
  gathered-kept (w ∷ before) (v ∷ after) all =
      ap (λ mine. mine ∷ answers_of after) all.0.1.kept
      ∙ ap (λ others. (w.answers.items ++ all.0.1.answers) ∷ others)
      (gathered-kept before after all.1)

  gathered-ran :
      (n : ℕ) (before after : List Worker) (all : AllZip (IsRun m phase) before after)
      → AreNumbered n before
      → PhaseRan m phase n (gathered before after all) (worker_seats before) (worker_seats after)
  gathered-ran n [] [] all numbered = tt
  gathered-ran n [] (v ∷ after) all numbered = absurd all
  gathered-ran n (w ∷ before) [] all numbered = absurd all
  gathered-ran n (w ∷ before) (v ∷ after) all numbered = (
    subst (λ k. AreAnswered m (commands_of k phase) all.0.1.answers w.seat v.seat)
        numbered.0 all.0.1.answered,
    gathered-ran (suc n) before after all.1 numbered.1,
  )

  -- the room that the phase takes
  room-after : (phases : List Phase) (before after : Worker)
      → HasRoomForAnswers (phase ∷ phases) before
      → IsRun m phase before after → HasRoomForAnswers phases after
  room-after phases before after room run =
      let ran = run.1 in
      let many = as-many-answers m (commands_of before.number phase)
      ran.answers before.seat after.seat ran.answered in
      omega (
        arith,
        room,
        many,
        ran.room,
        ap length ran.kept,
        length-append before.answers.items ran.answers,
        length-append (commands_of before.number phase)
            (flat_map (commands_of before.number) phases),
        ap (λ k. length (flat_map (commands_of k) phases)) ran.number,
      )

  -- they are ready for the phase
  pub ready-now :
      (phases : List Phase) (workers : List Worker) → All (λ w. IsMine m w.seat) workers
      → All (HasRoomForAnswers (phase ∷ phases)) workers
      → All (IsReadyFor m phase) workers
  ready-now phases workers own room k d below =
      let worker = get_or workers k d in (
        own k d below,
        omega (
          arith,
          room k d below,
          length-append (commands_of worker.number phase)
              (flat_map (commands_of worker.number) phases),
        ),
      )

-- the numbers stay
numbered-after :
    (R : Worker → Worker → Type 0) → ((w v : Worker) → R w v → v.number ≡ w.number)
    → (n : ℕ) (before after : List Worker)
    → AllZip R before after → AreNumbered n before → AreNumbered n after
numbered-after R same n [] [] all numbered = tt
numbered-after R same n [] (v ∷ after) all numbered = absurd all
numbered-after R same n (w ∷ before) [] all numbered = absurd all
numbered-after R same n (w ∷ before) (v ∷ after) all numbered =
    (same w v all.0 ∙ numbered.0, numbered-after R same (suc n) before after all.1 numbered.1)

-- workers that have met have their answers, and their seats have met
met-kept :
    (m : MapOf) (seats : List SeatOf) (before after : List Worker)
    → AllZip (HasMetAs m seats) before after
    → answers_of after ≡ answers_of before
met-kept m seats [] [] all = refl
met-kept m seats [] (v ∷ after) all = absurd all
met-kept m seats (w ∷ before) [] all = absurd all
met-kept m seats (w ∷ before) (v ∷ after) all =
    ap (λ answers. answers.items ∷ answers_of after) all.0.answers
    ∙ ap (λ others. w.answers.items ∷ others) (met-kept m seats before after all.1)

met-seats :
    (m : MapOf) (seats : List SeatOf) (before after : List Worker)
    → AllZip (HasMetAs m seats) before after
    → AllZip (HasMetAll m seats) (worker_seats before) (worker_seats after)
met-seats m seats [] [] all = tt
met-seats m seats [] (v ∷ after) all = absurd all
met-seats m seats (w ∷ before) [] all = absurd all
met-seats m seats (w ∷ before) (v ∷ after) all = (all.0.met, met-seats m seats before after all.1)

room-met :
    (m : MapOf) (seats : List SeatOf) (phases : List Phase) (w v : Worker)
    → HasRoomForAnswers phases w → HasMetAs m seats w v → HasRoomForAnswers phases v
room-met m seats phases w v room met =
    omega (
      arith,
      room,
      ap (λ answers. length answers.items) met.answers,
      ap vec_capacity met.answers,
      ap (λ k. length (flat_map (commands_of k) phases)) met.number,
    )

-- ---- all phases

-- no phase
pub run-none :
    (m : MapOf) (workers : List Worker) → All (λ w. IsMine m w.seat) workers
    → HaveRunAll m [] workers workers
run-none m workers own = record {
  answers = [];
  ran = refl;
  own = own;
  kept = sym (joined-none (answers_of workers) (length workers));
}

-- a phase before others
pub run-phase :
    (m : MapOf) (phase : Phase) (phases : List Phase) (before apart next after : List Worker)
    → AreNumbered 0 before
    → AllZip (IsRun m phase) before apart → AllZip (HasMetAs m (worker_seats apart)) apart next
    → HaveRunAll m phases next after
    → HaveRunAll m (phase ∷ phases) before after
run-phase m phase phases before apart next after numbered run met later =
    let first = gathered m phase before apart run in
    let many = gathered-many m phase before apart run in
    let count = sym (length_all_zip (HasMetAs m (worker_seats apart)) apart next met)
    ∙ sym (length_all_zip (IsRun m phase) before apart run) in
    record {
      answers = first ∷ later.answers;
      ran = (
        worker_seats apart,
        worker_seats next,
        gathered-ran m phase 0 before apart run numbered,
        met-seats m (worker_seats apart) apart next met,
        later.ran,
      );
      own = later.own;
      kept =
          later.kept
          ∙ ap (λ answers. joined_answers answers (all_answers (length next) later.answers))
          (met-kept m (worker_seats apart) apart next met ∙ gathered-kept m phase before apart run)
          ∙ ap (λ n. joined_answers (joined_answers (answers_of before) first)
          (all_answers n later.answers)) count
          ∙ joined-assoc (answers_of before) first (all_answers (length before) later.answers)
          (many ∙ sym (length-map before (λ w. w.answers.items)));
    }

-- The workers have run the first i phases. If they run the others, they have run all.
pub record HaveRunSome (m : MapOf) (phases : List Phase) (i : ℕ) (first now : List Worker) :
    Type 0 where
  pub own : All (λ w. IsMine m w.seat) now
  pub numbered : AreNumbered 0 now
  pub room : All (HasRoomForAnswers (drop i phases)) now
  pub goes_on : (last : List Worker) → HaveRunAll m (drop i phases) now last
      → HaveRunAll m phases first last

module _ (m : MapOf) (kept : List (Vec (ℕ × Command) Global)) where
  -- the phases from place i on
  phases-next :
      (i : ℕ) (phase : Vec (ℕ × Command) Global) → i < length kept → phase ≡ get_or kept i phase
      → drop i (phases_in kept) ≡ phase.items ∷ drop (i + 1) (phases_in kept)
  phases-next i phase below at =
      drop_more (phases_in kept) i phase.items
      (omega (arith, below, length-map kept (λ p. p.items)))
      ∙ ap (λ items. items ∷ drop (i + 1) (phases_in kept))
      (get_or-map (λ p. p.items) kept i phase phase.items below ∙ ap (λ p. p.items) (sym at))

  pub some-ready :
      (i : ℕ) (phase : Vec (ℕ × Command) Global) (first now : List Worker) → i < length kept
      → phase ≡ get_or kept i phase
      → HaveRunSome m (phases_in kept) i first now → All (IsReadyFor m phase.items) now
  some-ready i phase first now below at so_far =
      ready-now m phase.items (drop (i + 1) (phases_in kept)) now so_far.own
      (subst (λ phases. All (HasRoomForAnswers phases) now) (phases-next i phase below at)
      so_far.room)

  pub some-more :
      (i : ℕ) (phase : Vec (ℕ × Command) Global) (first now apart next : List Worker)
      → i < length kept → phase ≡ get_or kept i phase
      → AllZip (IsRun m phase.items) now apart → AllZip (HasMetAs m (worker_seats apart)) apart next
      → HaveRunSome m (phases_in kept) i first now
      → HaveRunSome m (phases_in kept) (i + 1) first next
  some-more i phase first now apart next below at run met so_far =
      let seats = worker_seats apart in
      let later = drop (i + 1) (phases_in kept) in
      let is = phases-next i phase below at in
      record {
        own = all-zip-right (HasMetAs m seats) (λ w. IsMine m w.seat) (λ w v met. met.own)
            apart next met;
        numbered =
            numbered-after (HasMetAs m seats) (λ w v met. met.number) 0 apart next met
            (numbered-after (IsRun m phase.items) (λ w v run. run.1.number)
            0 now apart run so_far.numbered);
        room =
            all-zip-all (HasMetAs m seats) (HasRoomForAnswers later) (HasRoomForAnswers later)
            (room-met m seats later) apart next met
            (all-zip-all (IsRun m phase.items) (HasRoomForAnswers (phase.items ∷ later))
            (HasRoomForAnswers later)
            (room-after m phase.items later) now apart
            run (subst (λ phases. All (HasRoomForAnswers phases) now) is so_far.room));
        goes_on = λ last rest.
            so_far.goes_on last
            (subst (λ phases. HaveRunAll m phases now last) (sym is)
            (run-phase m phase.items later now apart next last so_far.numbered run met rest));
      }

  pub some-done :
      (i : ℕ) (first now : List Worker) → length kept ≤ i
      → HaveRunSome m (phases_in kept) i first now
      → HaveRunAll m (phases_in kept) first now
  some-done i first now whole so_far =
      so_far.goes_on now
      (subst (λ phases. HaveRunAll m phases now now)
      (sym (drop_all i (phases_in kept) (omega (arith, whole, length-map kept (λ p. p.items)))))
      (run-none m now so_far.own))
