-- What the answers of writes tell.
use Rattle.std.proofs.Common.{◌≡◌, ◌∙◌, ◌+◌, ℕ, Bool, true, false, Option, Some, None, Result, Ok, Err, ap, refl, subst, sym}
use Rattle.std.specs.Prelude.{if◌then◌else◌}
use Rattle.nb_core.specs.Log.{changed, holds_of}
use Rattle.nb_core.specs.declared.calls.Call.{Call}
use Rattle.nb_core.specs.declared.calls.Call.TheVariants.{Get, Write}
use Rattle.nb_core.specs.declared.calls.Change.{Change}
use Rattle.nb_core.specs.declared.calls.Change.TheVariants.{Add, Put, Remove}
use Rattle.nb_core.specs.declared.calls.Want.{Want}
use Rattle.nb_migration.specs.Laws.{AnswersTell, AnswerHolds}
use Rattle.nb_migration.specs.Numbers.{is_open}
use Rattle.nb_migration.specs.Settling.{left_by}
use Rattle.nb_migration.specs.Writes.{IsOpenWrite, answer_at, answer_at_none, answer_to, kept_by}
use Rattle.nb_migration.specs.declared.writes.CoreFault.{CoreFault}
use Rattle.nb_migration.specs.declared.writes.Written.{Written}
use Rattle.nb_migration.specs.declared.writes.Written.TheVariants.{Absent, Came, Changed, Kept, Moved}

-- what is told of one answer is told of an equal one
told-as :
    (call : Call) (found : Option ℕ) (x answer : Written)
    → ◌≡◌ {A = Result Written CoreFault} (Ok x) (Ok answer) → AnswerHolds call found x
    → AnswerHolds call found answer
told-as call found x answer same told =
    let is : x ≡ answer = cc in subst (AnswerHolds call found) is told

module _ (k : ℕ) (want : Want) (change : Change) (opens : IsOpenWrite (Write k want change)) where
  abbrev call : Call
  call = Write k want change

  -- what is left, where it is known whether the condition holds
  left-if :
      (found : Option ℕ) (b : Bool) → holds_of want found ≡ b
      → left_by call found ≡ (if b then changed change found else found)
  left-if found b = ap (λ b. if b then changed change found else found)

  left-open :
      (found : Option ℕ) → holds_of want found ≡ true → is_open (left_by call found) ≡ true
  left-open found holds =
      subst (λ o. is_open o ≡ true) (sym (left-if found true holds)) (opens found holds).1

  -- a put at a key without a number
  put-told :
      (m : ℕ) → changed change None ≡ Some m → (b : Bool) → holds_of want None ≡ b
      → AnswerHolds call None (if b then Came else Absent)
  put-told m puts true holds = (
    refl,
    (λ none. let e : ◌≡◌ {A = Option ℕ} (Some m) None =
        sym puts ∙ sym (left-if None true holds) ∙ none in absurd cc),
    left-open None holds,
  )
  put-told m puts false holds = (refl, left-if None false holds)

  -- a number that is the user's
  open-told :
      (n : ℕ) (answer : Written) → is_open (Some n) ≡ true → (b : Bool)
      → holds_of want (Some n) ≡ b
      → (if b then Ok (Changed n) else kept_by change n) ≡ Ok answer
      → AnswerHolds call (Some n) answer
  open-told n answer user true holds told =
      told-as call (Some n) (Changed n) answer told (refl, user, left-open (Some n) holds)
  open-told n answer user false holds told =
      kept change told (refl, user, left-if (Some n) false holds)
    where
      kept :
          (change : Change) → kept_by change n ≡ Ok answer → AnswerHolds call (Some n) (Kept n)
          → AnswerHolds call (Some n) answer
      kept (Add d) same told = absurd cc
      kept (Put m) same told = told-as call (Some n) (Kept n) answer same told
      kept Remove same told = told-as call (Some n) (Kept n) answer same told

  -- one that is frozen, or the mark of a closed key
  moved-told :
      (n : ℕ) → is_open (Some n) ≡ false → (b : Bool) → holds_of want (Some n) ≡ b
      → AnswerHolds call (Some n) Moved
  moved-told n past true holds =
      let user : is_open (Some n) ≡ true = (opens (Some n) holds).0 in absurd cc
  moved-told n past false holds = (past, left-if (Some n) false holds)

  some-told :
      (n : ℕ) (answer : Written) (b : Bool) → is_open (Some n) ≡ b
      → (if b then answer_at call n else Ok Moved) ≡ Ok answer → AnswerHolds call (Some n) answer
  some-told n answer true user told =
      open-told n answer user (holds_of want (Some n)) refl told
  some-told n answer false past told =
      told-as call (Some n) Moved answer told (moved-told n past (holds_of want (Some n)) refl)

-- no number
none-told :
    (k : ℕ) (want : Want) (change : Change) → IsOpenWrite (Write k want change)
    → AnswerHolds (Write k want change) None (answer_at_none (Write k want change))
none-told k want (Put m) opens = put-told k want (Put m) opens m refl (holds_of want None) refl
none-told k want (Add d) opens =
    put-told k want (Add d) opens (0 + d) refl (holds_of want None) refl
none-told k want Remove opens = (refl, left (holds_of want None))
  where
    left : (b : Bool) → ◌≡◌ {A = Option ℕ} (if b then None else None) None
    left true = refl
    left false = refl

pub answers_tell : AnswersTell
answers_tell (Get k) found answer opens told = absurd opens
answers_tell (Write k want change) None answer opens told =
    told-as (Write k want change) None (answer_at_none (Write k want change)) answer told (none-told k want change opens)
answers_tell (Write k want change) (Some n) answer opens told =
    some-told k want change opens n answer (is_open (Some n)) refl told
