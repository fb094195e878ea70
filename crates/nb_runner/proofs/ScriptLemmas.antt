-- The tasks that a script's lines say.
use Rattle.std.proofs.Common.{◌≡◌, ℕ, ◌==◌, ◌&&◌, ◌<◌, suc, Bool, true, false, cond, nat_lt, ltb-true, List, [], ◌∷◌, ◌++◌, length, codes, Option, Some, None, Result, Ok, Err, option_to_list, ap, subst, refl}
use Rattle.std.specs.List.{All, onto_first}
use Rattle.std.specs.Option.{ok_or}
use Rattle.std.specs.Str.{bytes_eq}
use Rattle.std.proofs.lemmas.List.Elements.{All-append, All-cons, All-head, All-nil, All-tail}
use Rattle.nb_core.specs.Digits.{number_spelled}
use Rattle.nb_script.specs.Script.{Bytes, Fault, Phase, ◌>>=◌, at_line, below, command_of, line_of, lines_from, lines_of, numbered_line, op_of, phases_of, said_by, script_of, task_of, words_in, worker_of}
use Rattle.nb_script.specs.declared.script.TheConstants.{LINE_MAX, LINES_MAX}
use Rattle.nb_script.specs.declared.script.Cause.{Cause}
use Rattle.nb_script.specs.declared.script.Cause.TheVariants as cause
use Rattle.nb_script.specs.declared.script.Command.{Command}
use Rattle.nb_script.specs.declared.script.Line.{Line}
use Rattle.nb_script.specs.declared.script.Line.TheVariants as line

-- ---- steps one after another

-- where both steps were made, so was the first
both-made :
    {E A B : Type 0} (r : Result A E) (f : A → Result B E) (y : B) → (r >>= f) ≡ Ok y
    → (x : A) × (r ≡ Ok x) × (f x ≡ Ok y)
both-made (Ok x) f y is = (x, refl, is)
both-made (Err e) f y is = absurd cc

if-ok :
    {E A : Type 0} (b : Bool) (e : E) (r : Result A E) (x : A) → cond b (Err e) r ≡ Ok x → r ≡ Ok x
if-ok true e r x is = absurd cc
if-ok false e r x is = is

below-limit : (limit : ℕ) (c : Cause) (o : Option ℕ) (n : ℕ) → below limit c o ≡ Ok n → n < limit
below-limit limit c None n is = absurd cc
below-limit limit c (Some m) n is = of (nat_lt m limit) refl is
  where
    of : (b : Bool) → nat_lt m limit ≡ b → cond b (Ok m) (Err c) ≡ Ok n → n < limit
    of true less same = let is : m ≡ n = cc in subst (λ k. k < limit) is (ltb-true m limit less)
    of false less same = absurd cc

-- ---- tasks

-- the worker of a task is one of so many
task-worker :
    (seats : ℕ) (first : Bytes) (words : List Bytes) (task : ℕ × Command)
    → task_of seats first words ≡ Ok task → task.0 < seats
unfolding task_of
task-worker seats first [] task is =
    let parts = both-made (worker_of seats first) (λ w. Err cause.Missing) task is in
    absurd (none parts.2)
  where
    none : ◌≡◌ {A = Result (ℕ × Command) Cause} (Err cause.Missing) (Ok task) → ⊥
    none bad = cc
task-worker seats first (name ∷ words) task is =
    let worker = both-made (worker_of seats first)
    (λ w. ok_or (op_of name) cause.Op >>= λ o. command_of o words >>= λ c. Ok (w, c)) task is in
    let op = both-made (ok_or (op_of name) cause.Op)
    (λ o. command_of o words >>= λ c. Ok (worker.0, c)) task worker.2 in
    let command = both-made (command_of op.0 words) (λ c. Ok (worker.0, c)) task op.2 in
    made worker.0 command.0 command.2 (below-limit seats cause.Worker (number_spelled first)
    worker.0 worker.1)
  where
    made : (w : ℕ) (c : Command) → ◌≡◌ {A = Result (ℕ × Command) Cause} (Ok (w, c)) (Ok task)
        → w < seats → task.0 < seats
    made w c same less = let is : (w, c) ≡ task = cc in
        subst (λ n. n < seats) (ap (λ (t : ℕ × Command). t.0) is) less

-- ---- lines

at-line : {A : Type 0} (n : ℕ) (r : Result A Cause) (x : A) → at_line n r ≡ Ok x → r ≡ Ok x
at-line n (Ok y) x is = let same : y ≡ x = cc in ap Ok same
at-line n (Err c) x is = absurd cc

-- What holds of each task that a line says holds of all tasks of the script.
module _
    (P : ℕ × Command → Type 0) (seats : ℕ)
    (holds : (first : Bytes) (words : List Bytes) (task : ℕ × Command)
    → task_of seats first words ≡ Ok task → P task)
  where
    -- the line says no task, or one of which it holds
    abbrev IsLineOf : Line → Type 0
    IsLineOf line.PhaseEnd = Unit {0}
    IsLineOf (line.Command w c) = P (w, c)

    all-one : (l : Line) → IsLineOf l → All IsLineOf (l ∷ [])
    all-one l one = All-cons IsLineOf l [] one (All-nil IsLineOf)

    said-is : (o said : Option Line) → ◌≡◌ {A = Result (Option Line) Cause} (Ok o) (Ok said)
        → All IsLineOf (option_to_list o) → All IsLineOf (option_to_list said)
    said-is o said is all = let same : o ≡ said = cc in
        subst (λ x. All IsLineOf (option_to_list x)) same all

    said-tasks : (words : List Bytes) (said : Option Line) → said_by seats words ≡ Ok said
        → All IsLineOf (option_to_list said)
    unfolding said_by
    said-tasks [] said is = said-is None said is (All-nil IsLineOf)
    said-tasks (word ∷ words) said is = of (bytes_eq word (codes "--") && length words == 0) is
      where
        of : (b : Bool)
            → cond b (Ok (Some line.PhaseEnd))
            (task_of seats word words >>= λ task. Ok (Some (line.Command task.0 task.1)))
            ≡ Ok said
            → All IsLineOf (option_to_list said)
        of true is = said-is (Some line.PhaseEnd) said is (all-one line.PhaseEnd tt)
        of false is =
            let parts = both-made (task_of seats word words)
            (λ task. Ok (Some (line.Command task.0 task.1))) said is in
            said-is (Some (line.Command parts.0.0 parts.0.1)) said parts.2
            (all-one (line.Command parts.0.0 parts.0.1) (holds word words parts.0 parts.1))

    numbered-tasks : (n : ℕ) (bytes : Bytes) (said : Option Line)
        → numbered_line seats n bytes ≡ Ok said → All IsLineOf (option_to_list said)
    numbered-tasks n bytes said is =
        let few = at-line n (cond (nat_lt LINES_MAX n) (Err cause.TooMany) (line_of seats bytes))
        said is in
        let short = if-ok (nat_lt LINES_MAX n) cause.TooMany (line_of seats bytes) said few in
        said-tasks (words_in bytes) said (if-ok (nat_lt LINE_MAX (length bytes)) cause.LongLine
        (said_by seats (words_in bytes)) said short)

    lines-tasks : (n : ℕ) (texts : List Bytes) (lines : List Line)
        → lines_from seats n texts ≡ Ok lines → All IsLineOf lines
    lines-tasks n [] lines is = let same : [] ≡ lines = cc in
        subst (All IsLineOf) same (All-nil IsLineOf)
    lines-tasks n (bytes ∷ rest) lines is =
        let first = both-made (numbered_line seats n bytes)
        (λ said. lines_from seats (suc n) rest >>= λ more. Ok (option_to_list said ++ more))
        lines is in
        let later = both-made (lines_from seats (suc n) rest)
        (λ more. Ok (option_to_list first.0 ++ more)) lines first.2 in
        joined (option_to_list first.0) later.0 later.2 (numbered-tasks n bytes first.0 first.1)
        (lines-tasks (suc n) rest later.0 later.1)
      where
        joined : (front more : List Line)
            → ◌≡◌ {A = Result (List Line) Fault} (Ok (front ++ more)) (Ok lines)
            → All IsLineOf front → All IsLineOf more
            → All IsLineOf lines
        joined front more same all all_more =
            let is : front ++ more ≡ lines = cc in
            subst (All IsLineOf) is (All-append IsLineOf front more all all_more)

    -- ---- phases

    onto-tasks : (task : ℕ × Command) (phases : List Phase) → P task → All (All P) phases
        → All (All P) (onto_first task phases)
    onto-tasks task [] one all = All-cons (All P) (task ∷ []) []
        (All-cons P task [] one (All-nil P)) (All-nil (All P))
    onto-tasks task (phase ∷ phases) one all =
        All-cons (All P) (task ∷ phase) phases
        (All-cons P task phase one (All-head (All P) phase phases all))
        (All-tail (All P) phase phases all)

    phases-tasks : (lines : List Line) → All IsLineOf lines → All (All P) (phases_of lines)
    phases-tasks [] all = All-cons (All P) [] [] (All-nil P) (All-nil (All P))
    phases-tasks (line.PhaseEnd ∷ lines) all =
        All-cons (All P) [] (phases_of lines) (All-nil P)
        (phases-tasks lines (All-tail IsLineOf line.PhaseEnd lines all))
    phases-tasks (line.Command w c ∷ lines) all =
        onto-tasks (w, c) (phases_of lines) (All-head IsLineOf (line.Command w c) lines all)
        (phases-tasks lines (All-tail IsLineOf (line.Command w c) lines all))

    script-tasks : (bytes : Bytes) (phases : List Phase) → script_of seats bytes ≡ Ok phases
        → All (All P) phases
    script-tasks bytes phases is =
        let parts = both-made (lines_from seats 1 (lines_of bytes)) (λ lines. Ok (phases_of lines))
        phases is in
        let same : phases_of parts.0 ≡ phases = cc in
        subst (All (All P)) same (phases-tasks parts.0
        (lines-tasks 1 (lines_of bytes) parts.0 parts.1))

-- all tasks of a script have a worker among so many
pub script-workers :
    (seats : ℕ) (bytes : Bytes) (phases : List Phase) → script_of seats bytes ≡ Ok phases
    → All (λ phase. All (λ task. task.0 < seats) phase) phases
script-workers seats = script-tasks (λ task. task.0 < seats) seats (task-worker seats)
