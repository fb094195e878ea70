-- A worker runs its commands of a phase, one after another.
use Rattle.std.proofs.Common.{◌≡◌, ◌∙◌, ℕ, suc, ◌+◌, ◌<◌, ◌≤◌, ◌==◌, true, false, cond, List, [], ◌∷◌, ◌++◌, length, drop, get_or, map, filter, ap, sym, subst, refl, append_assoc, add-one}
use Rattle.std.proofs.Math.Seq.{drop-cons}
use Rattle.std.proofs.lemmas.List.{append-nil, drop_all}
use Rattle.nb_map.specs.Maps.{MapOf, SeatOf}
use Rattle.nb_script.specs.Script.{Phase}
use Rattle.nb_runner.specs.Working.{AreAnswered, HasRunCommand, commands_of}
use Rattle.nb_runner.specs.declared.answers.Answer.{Answer}
use Rattle.nb_script.specs.declared.script.Command.{Command}

-- The commands of the first i tasks are answered. If those of the others are answered, all are.
pub record IsRunning (m : MapOf) (w : ℕ) (phase : Phase) (i : ℕ) (before answers : List Answer)
    (first now : SeatOf) : Type 0 where
  pub so_far : List Answer
  pub kept : answers ≡ before ++ so_far
  pub goes_on :
      (later : List Answer) (last : SeatOf)
      → AreAnswered m (commands_of w (drop i phase)) later now last
      → AreAnswered m (commands_of w phase) (so_far ++ later) first last

module _ (m : MapOf) (w : ℕ) (phase : Phase) where
  -- the commands of the tasks from place i on
  next-own : (i : ℕ) (task : ℕ × Command) → i < length phase → task ≡ get_or phase i task
      → (task.0 == w) ≡ true
      → commands_of w (drop i phase) ≡ task.1 ∷ commands_of w (drop (i + 1) phase)
  next-own i task below at own =
      ap (commands_of w) (drop-cons phase i task below ∙ ap (λ t. t ∷ drop (suc i) phase) (sym at))
      ∙ ap (λ b. map (λ t. t.1) (cond b (task ∷ filter (λ t. t.0 == w) (drop (suc i) phase))
      (filter (λ t. t.0 == w) (drop (suc i) phase)))) own
      ∙ ap (λ n. task.1 ∷ commands_of w (drop n phase)) (sym (add-one i))

  next-other : (i : ℕ) (task : ℕ × Command) → i < length phase → task ≡ get_or phase i task
      → (task.0 == w) ≡ false
      → commands_of w (drop i phase) ≡ commands_of w (drop (i + 1) phase)
  next-other i task below at other =
      ap (commands_of w) (drop-cons phase i task below ∙ ap (λ t. t ∷ drop (suc i) phase) (sym at))
      ∙ ap (λ b. map (λ t. t.1) (cond b (task ∷ filter (λ t. t.0 == w) (drop (suc i) phase))
      (filter (λ t. t.0 == w) (drop (suc i) phase)))) other
      ∙ ap (λ n. commands_of w (drop n phase)) (sym (add-one i))

  -- one more of the worker's commands is answered
  pub running-more :
      (i : ℕ) (task : ℕ × Command) (a : Answer) (before answers : List Answer) (first now next :
      SeatOf)
      → i < length phase → task ≡ get_or phase i task → (task.0 == w) ≡ true
      → HasRunCommand m task.1 a now next
      → IsRunning m w phase i before answers first now
      → IsRunning m w phase (i + 1) before (answers ++ a ∷ []) first next
  running-more i task a before answers first now next below at own answered running = record {
    so_far = running.so_far ++ a ∷ [];
    kept = ap (λ as'. as' ++ a ∷ []) running.kept ∙ append_assoc before running.so_far (a ∷ []);
    goes_on = λ later last rest.
        subst (λ as'. AreAnswered m (commands_of w phase) as' first last)
        (sym (append_assoc running.so_far (a ∷ []) later))
        (running.goes_on (a ∷ later) last
        (subst (λ cs. AreAnswered m cs (a ∷ later) now last) (sym (next-own i task below at own))
        (next, answered, rest)));
  }

  -- a task of another worker
  pub running-past :
      (i : ℕ) (task : ℕ × Command) (before answers : List Answer) (first now : SeatOf)
      → i < length phase → task ≡ get_or phase i task → (task.0 == w) ≡ false
      → IsRunning m w phase i before answers first now
      → IsRunning m w phase (i + 1) before answers first now
  running-past i task before answers first now below at other running = record {
    so_far = running.so_far;
    kept = running.kept;
    goes_on = λ later last rest.
        running.goes_on later last (subst (λ cs. AreAnswered m cs later now last)
        (sym (next-other i task below at other)) rest);
  }

  -- no task is left
  pub running-done :
      (i : ℕ) (before answers : List Answer) (first now : SeatOf) → length phase ≤ i
      → (running : IsRunning m w phase i before answers first now)
      → AreAnswered m (commands_of w phase) running.so_far first now
  running-done i before answers first now whole running =
      subst (λ as'. AreAnswered m (commands_of w phase) as' first now) (append-nil running.so_far)
      (running.goes_on [] now (subst (λ tasks. AreAnswered m (commands_of w tasks) [] now now)
      (sym (drop_all i phase whole)) refl))

  -- how much room the rest takes
  pub room-own :
      (i : ℕ) (task : ℕ × Command) → i < length phase → task ≡ get_or phase i task
      → (task.0 == w) ≡ true
      → length (commands_of w (drop i phase)) ≡ suc (length (commands_of w (drop (i + 1) phase)))
  room-own i task below at own = ap length (next-own i task below at own)

  pub room-other :
      (i : ℕ) (task : ℕ × Command) → i < length phase → task ≡ get_or phase i task
      → (task.0 == w) ≡ false
      → length (commands_of w (drop i phase)) ≡ length (commands_of w (drop (i + 1) phase))
  room-other i task below at other = ap length (next-other i task below at other)
