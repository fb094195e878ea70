-- Calls of the protocol that change nothing, as events.
use Rattle.std.proofs.Common.{◌≡◌, ◌≢◌, ◌∙◌, ℕ, ◌≤◌, ◌-◌, ◌&&◌, ◌||◌, Bool, true, false, not, cond, List, Option, Some, None, Result, Ok, ap, sym, subst, refl, inl, inr, arith}
use Rattle.std.proofs.lemmas.Bool.{both_ways, cond-false, le-leb, lt-ltb, not-true, or_cases, or_right}
use Rattle.std.proofs.lemmas.Bool.Decides.{nat_tests}
use Rattle.std.specs.Prelude.{nat_le, nat_lt}
use Rattle.nb_core.specs.Calls.{leaves_alone, same_number}
use Rattle.nb_core.specs.History.{key_of_call}
use Rattle.nb_core.specs.Log.{Entry, changed, holds_of, reply_at}
use Rattle.nb_core.specs.declared.calls.Call.{Call}
use Rattle.nb_core.specs.declared.calls.Call.TheVariants.{Get, Write}
use Rattle.nb_core.specs.declared.calls.Change.{Change}
use Rattle.nb_core.specs.declared.calls.Change.TheVariants.{Add, Put, Remove}
use Rattle.nb_core.specs.declared.calls.Reply.{Reply}
use Rattle.nb_core.specs.declared.calls.Want.{Want}
use Rattle.nb_core.specs.declared.calls.Want.TheVariants.{Absent, Any, Below, Equal, Present}
use Rattle.nb_migration.specs.CoreCalls.{AreUsers, CoreCall, Copies, Closes, Freezes, KnowsOthers, Looks, Marks, Writes, called_key, idle_event, is_answer, made_call, open_call, open_want, read_event}
use Rattle.nb_migration.specs.Numbers.{frozen_of, is_open, seen_of}
use Rattle.nb_migration.specs.Shown.{HasPast, number_of_state}
use Rattle.nb_migration.specs.Writes.{answer_at, answer_at_none, answer_to, kept_by}
use Rattle.nb_migration.specs.declared.numbers.Seen.{Seen}
use Rattle.nb_migration.specs.declared.numbers.Seen.TheVariants as seen
use Rattle.nb_migration.specs.declared.numbers.TheConstants.{CLOSED, FROZEN, USER_END, USER_MAX}
use Rattle.nb_migration.specs.declared.writes.CoreFault.{CoreFault}
use Rattle.nb_migration.specs.declared.writes.Written.{Written}
use Rattle.nb_migration.specs.declared.writes.Written.TheVariants as written
use Rattle.nb_moving.specs.Moving.{KeyPlace, MayFollow, MayRead, number_in_state, row_after, row_of, state_in}
use Rattle.nb_moving.specs.declared.events.Event.{Event}
use Rattle.nb_moving.specs.declared.events.Event.TheVariants as event
use Rattle.nb_moving.specs.declared.events.State.{State}
use Rattle.nb_moving.specs.declared.events.State.TheVariants.{Never, Number, Gone, Frozen, Closed, Full}

-- ---- what numbers show

pub users-open : (n : ℕ) → n ≤ USER_MAX → is_open (Some n) ≡ true
users-open n users = le-leb n USER_MAX users

not-le : (m n : ℕ) → (m ≤ n → ⊥) → nat_le m n ≡ false
not-le m n more = grind (arith, nat_tests, more)

pub frozen-moved : (n : ℕ) → is_open (Some (frozen_of n)) ≡ false
frozen-moved n = not-le (frozen_of n) USER_MAX (λ less. omega (arith, less))

-- what is past the user's numbers shows this
abbrev past_user : ℕ → Seen
past_user n = cond (nat_le FROZEN n && nat_lt n CLOSED) (seen.Frozen (n - FROZEN)) seen.Closed

pub seen-open : (n : ℕ) → n ≤ USER_MAX → seen_of (Some n) ≡ seen.Open n
seen-open n users = ap (λ b. cond b (seen.Open n) (past_user n)) (le-leb n USER_MAX users)

pub seen-frozen : (n : ℕ) → n ≤ USER_MAX → seen_of (Some (frozen_of n)) ≡ seen.Frozen n
seen-frozen n users =
    let m = frozen_of n in
    let past : nat_le m USER_MAX ≡ false = not-le m USER_MAX (λ less. omega (arith, less)) in
    let from : nat_le FROZEN m ≡ true = le-leb FROZEN m (omega arith) in
    let to : nat_lt m CLOSED ≡ true = lt-ltb m CLOSED (omega (arith, users)) in
    let same : m - FROZEN ≡ n = omega arith in
    ap (λ b. cond b (seen.Open m) (past_user m)) past
    ∙ ap (λ b. cond (b && nat_lt m CLOSED) (seen.Frozen (m - FROZEN)) seen.Closed) from
    ∙ ap (λ b. cond b (seen.Frozen (m - FROZEN)) seen.Closed) to ∙ ap seen.Frozen same

-- ---- a look for a user's get

-- the event may follow, and leaves all rows
abbrev pub IsIdle : List Event → Event → Type 0
IsIdle h e = MayFollow h e × ((key : ℕ) (row : List KeyPlace) → row_after e key row ≡ row)

look-idle : (h : List Event) (t c k : ℕ) → IsIdle h (event.Look t c k)
look-idle h t c k = (tt, λ key row. refl)

read-idle :
    (h : List Event) (t c : ℕ) (a : Call) (r : Reply)
    → MayRead h c (state_in c (row_of h (key_of_call a))) a r → IsIdle h (event.Read t c a r)
read-idle h t c a r may = (may, λ key row. refl)

abbrev ReadsIdle : List Event → (thread core key : ℕ) → Seen → Type 0
ReadsIdle h t c key shown = KnowsOthers h (read_event t c key shown) → IsIdle h (read_event t c key shown)

-- a get that finds a number
get-number :
    (h : List Event) (t c key n : ℕ) (s : State) → state_in c (row_of h key) ≡ s
    → number_in_state s ≡ Some n → ((had : Bool) → s ≢ Closed had)
    → KnowsOthers h (event.Read t c (Get key) (reply_at (Get key) (Some n)))
    → IsIdle h (event.Read t c (Get key) (reply_at (Get key) (Some n)))
get-number h t c key n s at number unmarked knows =
    read-idle h t c (Get key) (reply_at (Get key) (Some n))
    (subst (λ s. MayRead h c s (Get key) (reply_at (Get key) (Some n))) (sym at) (record {
      reached = knows.0;
      unmarked = unmarked;
      last = λ none. let both : ◌≡◌ {A = Option ℕ} None (Some n) = sym none ∙ number in absurd cc;
      alone = refl;
      answers = ap (reply_at (Get key)) (sym number);
    }))

-- one that finds none, and no link
get-none :
    (h : List Event) (t c key : ℕ) (s : State) → state_in c (row_of h key) ≡ s
    → number_in_state s ≡ None → ((had : Bool) → s ≢ Closed had) → ReadsIdle h t c key seen.Absent
get-none h t c key s at number unmarked knows =
    read-idle h t c (Get key) (reply_at (Get key) None)
    (subst (λ s. MayRead h c s (Get key) (reply_at (Get key) None)) (sym at) (record {
      reached = knows.0;
      unmarked = unmarked;
      last = λ none. knows.1 refl;
      alone = refl;
      answers = ap (reply_at (Get key)) (sym number);
    }))

get-idle :
    (h : List Event) (t c key : ℕ) (s : State) (log : List Entry)
    → state_in c (row_of h key) ≡ s → HasPast s log key
    → ReadsIdle h t c key (seen_of (number_of_state s))
get-idle h t c key Never log at past = get-none h t c key Never at refl (λ had e. cc)
get-idle h t c key (Number n) log at past =
    subst (ReadsIdle h t c key) (sym (seen-open n past))
    (λ knows. get-number h t c key n (Number n) at refl (λ had e. cc) knows)
get-idle h t c key Gone log at past = get-none h t c key Gone at refl (λ had e. cc)
get-idle h t c key (Frozen n) log at past =
    subst (ReadsIdle h t c key) (sym (seen-frozen n past))
    (λ knows. get-number h t c key n (Frozen n) at refl (λ had e. cc) knows)
get-idle h t c key (Closed had) log at past = λ knows. look-idle h t c key
get-idle h t c key Full log at past = get-none h t c key Full at refl (λ had e. cc)

-- ---- a user's write

-- where there is no number, the condition of a write made in a core is the user's
open-none :
    (want : Want) (change : Change) → holds_of (open_want want change) None ≡ holds_of want None
open-none Any (Add d) = refl
open-none Any (Put m) = refl
open-none Any Remove = refl
open-none Absent change = refl
open-none Present change = refl
open-none (Equal m) change = refl
open-none (Below m) change = refl

-- where it is met, the user's is
pub open-holds :
    (want : Want) (change : Change) (found : Option ℕ)
    → holds_of (open_want want change) found ≡ true → holds_of want found ≡ true
open-holds Any change found holds = refl
open-holds Absent change found holds = holds
open-holds Present change found holds = holds
open-holds (Equal m) change found holds = holds
open-holds (Below m) change found holds = holds

below-end : (n : ℕ) → n ≤ USER_MAX → nat_lt n USER_END ≡ true
below-end n users = lt-ltb n USER_END (omega (arith, users))

-- what changes a number, and is no add
abbrev IsNoAdd : Change → Type 0
IsNoAdd (Add d) = ⊥
IsNoAdd change = Unit {0}

-- where it isn't met by a number of the user's, the user's isn't, but for an add
open-fails :
    (want : Want) (change : Change) (n : ℕ) → IsNoAdd change → n ≤ USER_MAX
    → holds_of (open_want want change) (Some n) ≡ false → holds_of want (Some n) ≡ false
open-fails Any (Add d) n plain users fails = absurd plain
open-fails Any (Put m) n plain users fails =
    absurd (both_ways (nat_lt n USER_END) fails (below-end n users))
open-fails Any Remove n plain users fails =
    absurd (both_ways (nat_lt n USER_END) fails (below-end n users))
open-fails Absent change n plain users fails = fails
open-fails Present change n plain users fails = fails
open-fails (Equal m) change n plain users fails = fails
open-fails (Below m) change n plain users fails = fails

module _ (h : List Event) (t c k : ℕ) (want : Want) (change : Change) where
  abbrev write : Call
  write = Write k want change

  abbrev made : Call
  made = open_call write

  -- the event of the write, by its answer
  abbrev pub write_event : Reply → Result Written CoreFault → Event
  write_event reply answer =
      cond (is_answer answer) (event.Read t c write reply) (event.Look t c k)

  abbrev pub WritesIdle : Reply → Result Written CoreFault → Type 0
  WritesIdle reply answer = KnowsOthers h (write_event reply answer) → IsIdle h (write_event reply answer)

  -- the same number, or none, is what it would put; or the user's condition doesn't hold
  alone-holds :
      (found : Option ℕ) → holds_of (open_want want change) found ≡ true
      → leaves_alone made found ≡ true → leaves_alone write found ≡ true
  alone-holds found holds alone =
      let b = same_number (changed change found) found in
      let same : b ≡ true = ap (λ x. not x || b) (sym holds) ∙ alone in
      or_right (not (holds_of want found)) b same

  pub alone-fails :
      (found : Option ℕ) → holds_of want found ≡ false → leaves_alone write found ≡ true
  alone-fails found fails = ap (λ x. not x || same_number (changed change found) found) fails

  -- a write that finds a number of the user's, and leaves it
  number-read :
      (n : ℕ) (b : Bool) → state_in c (row_of h k) ≡ Number n
      → holds_of want (Some n) ≡ b → holds_of (open_want want change) (Some n) ≡ b
      → leaves_alone write (Some n) ≡ true
      → KnowsOthers h (event.Read t c write (reply_at made (Some n)))
      → IsIdle h (event.Read t c write (reply_at made (Some n)))
  number-read n b at users holds alone knows =
      read-idle h t c write (reply_at made (Some n))
      (subst (λ s. MayRead h c s write (reply_at made (Some n))) (sym at) (record {
        reached = knows.0;
        unmarked = λ had e. cc;
        last = λ none. absurd (cc);
        alone = alone;
        answers = ap (λ (b : Bool). record { before = Some n; matched = b }) (holds ∙ sym users);
      }))

  pub number-idle :
      (n : ℕ) → n ≤ USER_MAX → state_in c (row_of h k) ≡ Number n → leaves_alone made (Some n) ≡ true
      → WritesIdle (reply_at made (Some n)) (answer_to made (Some n))
  number-idle n users at alone =
      subst (WritesIdle (reply_at made (Some n)))
      (sym (ap (λ b. cond b (answer_at made n) (Ok written.Moved)) (users-open n users)))
      (held (holds_of (open_want want change) (Some n)) refl)
    where
      kept : (change' : Change) → change ≡ change' → holds_of (open_want want change) (Some n) ≡ false
          → WritesIdle (reply_at made (Some n)) (kept_by change' n)
      kept (Add d) is fails = λ knows. look-idle h t c k
      kept (Put m) is fails =
          let user = open-fails want change n (subst IsNoAdd (sym is) tt) users fails in
          number-read n false at user fails (alone-fails (Some n) user)
      kept Remove is fails =
          let user = open-fails want change n (subst IsNoAdd (sym is) tt) users fails in
          number-read n false at user fails (alone-fails (Some n) user)

      held : (b : Bool) → holds_of (open_want want change) (Some n) ≡ b
          → WritesIdle (reply_at made (Some n)) (answer_at made n)
      held true holds =
          subst (WritesIdle (reply_at made (Some n)))
          (sym (ap (λ b. cond b (Ok (written.Changed n)) (kept_by change n)) holds))
          (number-read n true at (open-holds want change (Some n) holds) holds
          (alone-holds (Some n) holds alone))
      held false fails =
          subst (WritesIdle (reply_at made (Some n)))
          (sym (ap (λ b. cond b (Ok (written.Changed n)) (kept_by change n)) fails))
          (kept change refl fails)

  -- a write that finds none, and puts none
  pub none-read :
      (s : State) → state_in c (row_of h k) ≡ s → number_in_state s ≡ None
      → ((had : Bool) → s ≢ Closed had) → leaves_alone write None ≡ true
      → WritesIdle (reply_at made None) (Ok written.Absent)
  none-read s at number unmarked alone knows =
      read-idle h t c write (reply_at made None)
      (subst (λ s. MayRead h c s write (reply_at made None)) (sym at) (record {
        reached = knows.0;
        unmarked = unmarked;
        last = λ none. knows.1 refl;
        alone = subst (λ o. leaves_alone write o ≡ true) (sym number) alone;
        answers =
            ap (λ (b : Bool). record { before = None; matched = b }) (open-none want change)
            ∙ ap (reply_at write) (sym number);
      }))

  -- one that finds what is no number of the user's
  pub moved-idle :
      (n : ℕ) → is_open (Some n) ≡ false → WritesIdle (reply_at made (Some n)) (answer_to made (Some n))
  moved-idle n past =
      subst (WritesIdle (reply_at made (Some n)))
      (sym (ap (λ b. cond b (answer_at made n) (Ok written.Moved)) past)) (λ knows. look-idle h t c k)

-- a write that would put a number where there is none, and didn't
puts-none :
    (h : List Event) (t c k : ℕ) (want : Want) (change : Change) (s : State)
    → state_in c (row_of h k) ≡ s → number_in_state s ≡ None → ((had : Bool) → s ≢ Closed had)
    → leaves_alone (open_call (Write k want change)) None ≡ true
    → same_number (changed change None) None ≡ false
    → answer_at_none (open_call (Write k want change))
    ≡ cond (holds_of (open_want want change) None) written.Came written.Absent
    → WritesIdle h t c k want change (reply_at (open_call (Write k want change)) None)
    (Ok (answer_at_none (open_call (Write k want change))))
puts-none h t c k want change s at number unmarked alone puts is =
    let b = holds_of (open_want want change) None in
    let same = same_number (changed change None) None in
    let fails : b ≡ false = elim (or_cases (not b) same alone) [
      | inl e ↦ not-true b e
      | inr e ↦ absurd (both_ways same puts e)
    ] in
    let absent = is ∙ cond-false b written.Came written.Absent fails in
    subst (λ a. WritesIdle h t c k want change (reply_at (open_call (Write k want change)) None)
    (Ok a)) (sym absent)
    (none-read h t c k want change s at number unmarked
    (alone-fails h t c k want change None (sym (open-none want change) ∙ fails)))

none-idle :
    (h : List Event) (t c k : ℕ) (want : Want) (change : Change) (s : State)
    → state_in c (row_of h k) ≡ s → number_in_state s ≡ None → ((had : Bool) → s ≢ Closed had)
    → leaves_alone (open_call (Write k want change)) None ≡ true
    → WritesIdle h t c k want change (reply_at (open_call (Write k want change)) None)
    (answer_to (open_call (Write k want change)) None)
none-idle h t c k want Remove s at number unmarked alone =
    none-read h t c k want Remove s at number unmarked
    (or_right (not (holds_of want None)) true refl)
none-idle h t c k want (Put m) s at number unmarked alone =
    puts-none h t c k want (Put m) s at number unmarked alone refl refl
none-idle h t c k want (Add d) s at number unmarked alone =
    puts-none h t c k want (Add d) s at number unmarked alone refl refl

write-idle :
    (h : List Event) (t c k : ℕ) (want : Want) (change : Change) (s : State)
    (log : List Entry) → state_in c (row_of h k) ≡ s → HasPast s log k
    → leaves_alone (open_call (Write k want change)) (number_of_state s) ≡ true
    → WritesIdle h t c k want change
    (reply_at (open_call (Write k want change)) (number_of_state s))
    (answer_to (open_call (Write k want change)) (number_of_state s))
write-idle h t c k want change Never log at past alone =
    none-idle h t c k want change Never at refl (λ had e. cc) alone
write-idle h t c k want change (Number n) log at past alone =
    number-idle h t c k want change n past at alone
write-idle h t c k want change Gone log at past alone =
    none-idle h t c k want change Gone at refl (λ had e. cc) alone
write-idle h t c k want change (Frozen n) log at past alone =
    moved-idle h t c k want change (frozen_of n) (frozen-moved n)
write-idle h t c k want change (Closed had) log at past alone =
    moved-idle h t c k want change CLOSED refl
write-idle h t c k want change Full log at past alone =
    none-idle h t c k want change Full at refl (λ had e. cc) alone

-- ---- all of them

-- a call that changes nothing may follow, and leaves all rows
pub call-idle :
    (h : List Event) (t c : ℕ) (call : CoreCall) (s : State) (log : List Entry)
    → state_in c (row_of h (called_key call)) ≡ s → HasPast s log (called_key call)
    → AreUsers call → leaves_alone (made_call call) (number_of_state s) ≡ true
    → KnowsOthers h (idle_event t c call (reply_at (made_call call) (number_of_state s)))
    → IsIdle h (idle_event t c call (reply_at (made_call call) (number_of_state s)))
call-idle h t c (Looks true key) s log at past users alone knows =
    get-idle h t c key s log at past knows
call-idle h t c (Looks false key) s log at past users alone knows = look-idle h t c key
call-idle h t c (Writes answers (Get key)) s log at past users alone knows = absurd users
call-idle h t c (Writes true (Write key want change)) s log at past users alone knows =
    write-idle h t c key want change s log at past alone knows
call-idle h t c (Writes false (Write key want change)) s log at past users alone knows =
    look-idle h t c key
call-idle h t c (Freezes key n) s log at past users alone knows = look-idle h t c key
call-idle h t c (Marks to key n) s log at past users alone knows = look-idle h t c key
call-idle h t c (Closes key had) s log at past users alone knows = look-idle h t c key
call-idle h t c (Copies from key n) s log at past users alone knows = look-idle h t c key
