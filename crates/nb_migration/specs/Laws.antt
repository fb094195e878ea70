-- What the answers of writes tell, as a law.
use Rattle.std.specs.Prelude.{◌≡◌, ◌≢◌, ℕ, true, false, Option, Some, None, Ok}
use Rattle.nb_core.specs.declared.calls.Call.{Call}
use Rattle.nb_migration.specs.Numbers.{is_open}
use Rattle.nb_migration.specs.Settling.{left_by}
use Rattle.nb_migration.specs.Writes.{IsOpenWrite, answer_to}
use Rattle.nb_migration.specs.declared.writes.Written.{Written}
use Rattle.nb_migration.specs.declared.writes.Written.TheVariants.{Absent, Came, Changed, Kept, Moved}

-- what an answer tells of what the call found at its key, and of what it left there
abbrev pub AnswerHolds : Call → Option ℕ → Written → Type 0
AnswerHolds call found Came =
    (found ≡ None) × (left_by call found ≢ None) × (is_open (left_by call found) ≡ true)
AnswerHolds call found (Changed n) =
    (found ≡ Some n) × (is_open found ≡ true) × (is_open (left_by call found) ≡ true)
AnswerHolds call found (Kept n) =
    (found ≡ Some n) × (is_open found ≡ true) × (left_by call found ≡ found)
AnswerHolds call found Absent = (found ≡ None) × (left_by call found ≡ None)
AnswerHolds call found Moved = (is_open found ≡ false) × (left_by call found ≡ found)

-- the answer of a write that acts only on numbers of the user, and is made, tells the truth
abbrev pub AnswersTell : Type 0
AnswersTell =
    (call : Call) (found : Option ℕ) (answer : Written) → IsOpenWrite call
    → answer_to call found ≡ Ok answer → AnswerHolds call found answer
