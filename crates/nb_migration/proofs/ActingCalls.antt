-- Calls of the protocol that change something, as events.
use Rattle.std.proofs.Common.{◌≡◌, ◌∙◌, ℕ, ◌≤◌, ◌==◌, ◌||◌, Bool, true, false, not, cond, List, [], ◌∷◌, Option, Some, None, ap, sym, subst, refl, arith}
use Rattle.std.proofs.lemmas.Bool.{both_ways, cond-false, cond-true, eq-eqb, eqb-true, leb-true, or_from}
use Rattle.std.specs.FinMap.{get}
use Rattle.std.specs.Option.{option_map_or}
use Rattle.nb_core.specs.Calls.{leaves_alone, same_number}
use Rattle.nb_core.specs.Log.{Entry, changed, holds_of, map_after, map_of_log, reply_at}
use Rattle.nb_core.specs.declared.calls.Call.TheVariants.{Get, Write}
use Rattle.nb_core.specs.declared.calls.Change.{Change}
use Rattle.nb_core.specs.declared.calls.Change.TheVariants.{Put}
use Rattle.nb_core.specs.declared.calls.Reply.{Reply}
use Rattle.nb_core.specs.declared.calls.Want.{Want}
use Rattle.nb_core.specs.declared.calls.Want.TheVariants.{Absent, Equal}
use Rattle.nb_map.specs.FirstPut.{HasHad}
use Rattle.nb_migration.specs.CoreCalls.{AreUsers, CoreCall, Copies, Closes, Freezes, HasFoundPast, KnowsOthers, Looks, Marks, Writes, acting_event, called_key, entry_by, made_call, open_want}
use Rattle.nb_migration.specs.Numbers.{frozen_of, is_open}
use Rattle.nb_migration.specs.Shown.{HasHadNumber, HasPast, ShowsState, number_of_state}
use Rattle.nb_migration.specs.Writes.{IsOpenWrite}
use Rattle.nb_migration.specs.declared.numbers.TheConstants.{CLOSED, USER_MAX}
use Rattle.nb_migration.proofs.IdleCalls.{frozen-moved, open-holds}
use Rattle.nb_migration.proofs.ShownStates.{acts-parts, get-acted, number-before, number-had, number-more, unmarked-more}
use Rattle.nb_moving.specs.Moving.{KeyPlace, MayFollow, MayWrite, becomes, change_at, has_core, is_reached, left_by, number_in_state, row_after, row_of, state_in}
use Rattle.nb_moving.specs.Moving as moving
use Rattle.nb_moving.specs.declared.events.Event.{Event}
use Rattle.nb_moving.specs.declared.events.Event.TheVariants as event
use Rattle.nb_moving.specs.declared.events.State.{State}
use Rattle.nb_moving.specs.declared.events.State.TheVariants.{Never, Number, Gone, Frozen, Closed, Full}

-- ---- the row after it

abbrev pub put : State → KeyPlace → KeyPlace
put s p = record p { state = s }

state-put :
    (c : ℕ) (s : State) (row : List KeyPlace) → has_core c row ≡ true
    → state_in c (change_at c (put s) row) ≡ s
state-put c s [] there = absurd (both_ways false refl there)
state-put c s (p ∷ r) there = here (p.core == c) refl there (state-put c s r)
  where
    here : (b : Bool) → (p.core == c) ≡ b → (b || has_core c r) ≡ true
        → (has_core c r ≡ true → state_in c (change_at c (put s) r) ≡ s)
        → state_in c (cond b (put s p ∷ r) (p ∷ change_at c (put s) r)) ≡ s
    here true is there more = cond-true (p.core == c) s (state_in c r) is
    here false is there more =
        cond-false (p.core == c) p.state (state_in c (change_at c (put s) r)) is ∙ more there

state-becomes :
    (key c : ℕ) (s : State) (row : List KeyPlace) → has_core c row ≡ true
    → state_in c (becomes key key c s row) ≡ s
state-becomes key c s row there =
    ap (λ b. state_in c (cond b (change_at c (put s) row) row)) (eq-eqb key key refl)
    ∙ state-put c s row there

-- ---- where it acts

freezes-at :
    (s : State) (log : List Entry) (key n : ℕ) → HasPast s log key → n ≤ USER_MAX
    → holds_of (Equal n) (number_of_state s) ≡ true → s ≡ Number n
freezes-at Never log key n past users holds = absurd (both_ways false refl holds)
freezes-at (Number m) log key n past users holds = ap Number (eqb-true m n holds)
freezes-at Gone log key n past users holds = absurd (both_ways false refl holds)
freezes-at (Frozen m) log key n past users holds =
    absurd (omega (arith, eqb-true (frozen_of m) n holds, users))
freezes-at (Closed had) log key n past users holds =
    absurd (omega (arith, eqb-true CLOSED n holds, users))
freezes-at Full log key n past users holds = absurd (both_ways false refl holds)

marks-at :
    (s : State) (log : List Entry) (key n : ℕ) → HasPast s log key → n ≤ USER_MAX
    → holds_of (Equal (frozen_of n)) (number_of_state s) ≡ true → s ≡ Frozen n
marks-at Never log key n past users holds = absurd (both_ways false refl holds)
marks-at (Number m) log key n past users holds =
    absurd (omega (arith, eqb-true m (frozen_of n) holds, past))
marks-at Gone log key n past users holds = absurd (both_ways false refl holds)
marks-at (Frozen m) log key n past users holds =
    let same : m ≡ n = omega (arith, eqb-true (frozen_of m) (frozen_of n) holds) in ap Frozen same
marks-at (Closed had) log key n past users holds =
    absurd (omega (arith, eqb-true CLOSED (frozen_of n) holds, users))
marks-at Full log key n past users holds = absurd (both_ways false refl holds)

copies-at :
    (s : State) (log : List Entry) (key : ℕ) → HasPast s log key → (HasHad log key → ⊥)
    → (s ≡ Full → ⊥) → holds_of Absent (number_of_state s) ≡ true → s ≡ Never
copies-at Never log key past never room holds = refl
copies-at (Number m) log key past never room holds = absurd (both_ways false refl holds)
copies-at Gone log key past never room holds = absurd (never (number-had log key past))
copies-at (Frozen m) log key past never room holds = absurd (both_ways false refl holds)
copies-at (Closed had) log key past never room holds = absurd (both_ways false refl holds)
copies-at Full log key past never room holds = absurd (room refl)

-- and what the log shows then of a key that is closed
closes-at :
    (s : State) (entry : Entry) (log : List Entry) (key : ℕ) (had : Bool) → HasPast s log key
    → HasFoundPast (Closes key had) log → (s ≡ Full → ⊥)
    → holds_of Absent (number_of_state s) ≡ true
    → get (map_of_log (entry ∷ log)) key ≡ Some CLOSED
    → (s ≡ cond had Gone Never) × HasPast (Closed had) (entry ∷ log) key
closes-at Never entry log key true past found room holds now = absurd (past found)
closes-at Never entry log key false past found room holds now =
    (refl, unmarked-more entry log key now (λ had. past (number-had log key had)))
closes-at (Number m) entry log key had past found room holds now =
    absurd (both_ways false refl holds)
closes-at Gone entry log key true past found room holds now = (refl, number-more entry log key past)
closes-at Gone entry log key false past found room holds now =
    absurd (found (number-had log key past))
closes-at (Frozen m) entry log key had past found room holds now =
    absurd (both_ways false refl holds)
closes-at (Closed was) entry log key had past found room holds now =
    absurd (both_ways false refl holds)
closes-at Full entry log key had past found room holds now = absurd (room refl)

-- a key with a number of the user, or none, may be written
writes-at :
    (s : State) → is_open (number_of_state s) ≡ true → (s ≡ Full → ⊥)
    → (moving.is_open s ≡ true) × (number_in_state s ≡ number_of_state s)
writes-at Never users room = (refl, refl)
writes-at (Number n) users room = (refl, refl)
writes-at Gone users room = (refl, refl)
writes-at (Frozen n) users room = absurd (both_ways _ (frozen-moved n) users)
writes-at (Closed had) users room = absurd (both_ways false refl users)
writes-at Full users room = absurd (room refl)

-- ---- what the log shows then

module _ (h : List Event) (log : List Entry) (t c : ℕ) (key : ℕ) (s : State)
    (at : state_in c (row_of h key) ≡ s) (shows : ShowsState log key s)
    (there : has_core c (row_of h key) ≡ true) where
  -- what the key has, where the condition holds
  now :
      (want : Want) (change : Change) → holds_of want (number_of_state s) ≡ true
      → get (map_after (Write key want change) (map_of_log log)) key ≡ changed change (number_of_state s)
  now want change holds =
      get-acted key want change (map_of_log log)
      (subst (λ o. holds_of want o ≡ true) (sym shows.number) holds)
      ∙ ap (changed change) shows.number

  -- the row's new state is shown
  shown :
      (entry : Entry) (s' : State) → ShowsState (entry ∷ log) key s'
      → ShowsState (entry ∷ log) key (state_in c (becomes key key c s' (row_of h key)))
  shown entry s' is =
      subst (ShowsState (entry ∷ log) key) (sym (state-becomes key c s' (row_of h key) there)) is

  module _ (seat : ℕ) where
    abbrev reply : CoreCall → Reply
    reply call = reply_at (made_call call) (number_of_state s)

    -- the event may follow, and the log with its entry shows what the key is then
    abbrev pub Acts : CoreCall → Type 0
    Acts call =
        MayFollow h (acting_event t c call (reply call))
        × ShowsState (entry_by seat call (reply call) ∷ log) key
        (state_in c (row_after (acting_event t c call (reply call)) key (row_of h key)))

    pub freeze-acts :
        (n : ℕ) → n ≤ USER_MAX
        → leaves_alone (made_call (Freezes key n)) (number_of_state s) ≡ false → Acts (Freezes key n)
    freeze-acts n users acts =
        let call = Freezes key n in
        let parts = acts-parts key (Equal n) (Put (frozen_of n)) (number_of_state s) acts in (
          at ∙ freezes-at s log key n shows.past users parts.0,
          shown (entry_by seat call (reply call)) (Frozen n)
              (record { number = now (Equal n) (Put (frozen_of n)) parts.0; past = users }),
        )

    pub mark-acts :
        (to n : ℕ) → n ≤ USER_MAX → KnowsOthers h (event.Mark t c to key n)
        → leaves_alone (made_call (Marks to key n)) (number_of_state s) ≡ false → Acts (Marks to key n)
    mark-acts to n users knows acts =
        let call = Marks to key n in
        let entry = entry_by seat call (reply call) in
        let m = frozen_of n in
        let parts = acts-parts key (Equal m) (Put CLOSED) (number_of_state s) acts in
        let was = marks-at s log key n shows.past users parts.0 in
        let number : get (map_of_log log) key ≡ Some m = shows.number ∙ ap number_of_state was in (
          (knows.0, at ∙ was, knows.1),
          shown entry (Closed true) (record {
            number = now (Equal m) (Put CLOSED) parts.0;
            past = number-before entry log key m number (λ e. omega (arith, e, users));
          }),
        )

    pub close-acts :
        (had : Bool) → HasFoundPast (Closes key had) log → (s ≡ Full → ⊥)
        → leaves_alone (made_call (Closes key had)) (number_of_state s) ≡ false
        → Acts (Closes key had)
    close-acts had found room acts =
        let call = Closes key had in
        let entry = entry_by seat call (reply call) in
        let parts = acts-parts key Absent (Put CLOSED) (number_of_state s) acts in
        let number = now Absent (Put CLOSED) parts.0 in
        let closes = closes-at s entry log key had shows.past found room parts.0 number in (
          at ∙ closes.0,
          shown entry (Closed had) (record { number = number; past = closes.1 }),
        )

    pub copy-acts :
        (from n : ℕ) → n ≤ USER_MAX → KnowsOthers h (event.Copy t from c key n) → (HasHad log key → ⊥)
        → (s ≡ Full → ⊥)
        → leaves_alone (made_call (Copies from key n)) (number_of_state s) ≡ false
        → Acts (Copies from key n)
    copy-acts from n users knows never room acts =
        let call = Copies from key n in
        let parts = acts-parts key Absent (Put n) (number_of_state s) acts in (
          (knows, at ∙ copies-at s log key shows.past never room parts.0),
          shown (entry_by seat call (reply call)) (Number n)
              (record { number = now Absent (Put n) parts.0; past = users }),
        )

    -- a removal shows that the key had a number
    was-there :
        (entry : Entry) (s : State) (left : Option ℕ) → left ≡ None
        → same_number left (number_of_state s) ≡ false → is_open (number_of_state s) ≡ true
        → get (map_of_log log) key ≡ number_of_state s → HasHadNumber (entry ∷ log) key
    was-there entry s left none other users number = was-by s users number
        (sym (ap (λ o. same_number o (number_of_state s)) none) ∙ other)
      where
        some-was : (n : ℕ) → is_open (Some n) ≡ true → get (map_of_log log) key ≡ Some n
            → HasHadNumber (entry ∷ log) key
        some-was n users number =
            number-before entry log key n number
            (λ e. omega (arith, e, leb-true n USER_MAX users))

        was-by : (s : State) → is_open (number_of_state s) ≡ true
            → get (map_of_log log) key ≡ number_of_state s
            → same_number None (number_of_state s) ≡ false → HasHadNumber (entry ∷ log) key
        was-by Never users number other = absurd (both_ways true other refl)
        was-by (Number n) users number other = some-was n users number
        was-by Gone users number other = absurd (both_ways true other refl)
        was-by (Frozen n) users number other = some-was (frozen_of n) users number
        was-by (Closed had) users number other = some-was CLOSED users number
        was-by Full users number other = absurd (both_ways true other refl)

    -- what a write leaves
    leaves :
        (entry : Entry) (o : Option ℕ) → get (map_of_log (entry ∷ log)) key ≡ o → is_open o ≡ true
        → (o ≡ None → HasHadNumber (entry ∷ log) key)
        → ShowsState (entry ∷ log) key (option_map_or Number o Gone)
    leaves entry None number users had = record { number = number; past = had refl }
    leaves entry (Some n) number users had =
        record { number = number; past = leb-true n USER_MAX users }

    pub write-acts :
        (answers : Bool) (want : Want) (change : Change)
        → IsOpenWrite (Write key (open_want want change) change)
        → is_reached c (row_of h key) ≡ true → (s ≡ Full → ⊥)
        → leaves_alone (made_call (Writes answers (Write key want change))) (number_of_state s) ≡ false
        → Acts (Writes answers (Write key want change))
    write-acts answers want change opens knows room acts =
        let call = Writes answers (Write key want change) in
        let write = Write key want change in
        let entry = entry_by seat call (reply call) in
        let found = number_of_state s in
        let left = changed change found in
        let parts = acts-parts key (open_want want change) change found acts in
        let users = opens found parts.0 in
        let was = writes-at s users.0 room in
        let holds = open-holds want change found parts.0 in (
          subst (λ s. MayWrite h c s write (reply call)) (sym at) (record {
            home = knows;
            unfrozen = was.0;
            acts = subst (λ o. leaves_alone write o ≡ false) (sym was.1)
                (or_from (not (holds_of want found)) (same_number left found) (ap not holds) parts.1);
            replies =
                ap (λ (b : Bool). record { before = found; matched = b }) (parts.0 ∙ sym holds)
                ∙ ap (reply_at write) (sym was.1);
          }),
          shown entry (left_by write found)
              (leaves entry left (now (open_want want change) change parts.0) users.1
              (λ none. was-there entry s left none parts.1 users.0 shows.number)),
        )

-- ---- all of them

-- a call that changes something may follow, and the log with its entry shows what its key is then
pub call-acts :
    (h : List Event) (log : List Entry) (t c seat : ℕ) (call : CoreCall) (s : State)
    (at : state_in c (row_of h (called_key call)) ≡ s) (shows : ShowsState log (called_key call) s)
    (there : has_core c (row_of h (called_key call)) ≡ true)
    → AreUsers call → HasFoundPast call log → (s ≡ Full → ⊥)
    → leaves_alone (made_call call) (number_of_state s) ≡ false
    → KnowsOthers h (acting_event t c call (reply_at (made_call call) (number_of_state s)))
    → Acts h log t c (called_key call) s at shows there seat call
call-acts h log t c seat (Looks answers key) s at shows there users found room acts knows =
    absurd (both_ways true acts refl)
call-acts h log t c seat (Writes answers (Get key)) s at shows there users found room acts knows =
    absurd users
call-acts h log t c seat (Writes answers (Write key want change)) s at shows there users found room acts knows =
    write-acts h log t c key s at shows there seat answers want change users knows room acts
call-acts h log t c seat (Freezes key n) s at shows there users found room acts knows =
    freeze-acts h log t c key s at shows there seat n users acts
call-acts h log t c seat (Marks to key n) s at shows there users found room acts knows =
    mark-acts h log t c key s at shows there seat to n users knows acts
call-acts h log t c seat (Closes key had) s at shows there users found room acts knows =
    close-acts h log t c key s at shows there seat had found room acts
call-acts h log t c seat (Copies from key n) s at shows there users found room acts knows =
    copy-acts h log t c key s at shows there seat from n users knows found room acts
