-- The logs of all cores, and the history of moving keys that they are.
use Rattle.std.proofs.Common.{◌≡◌, ◌∙◌, ◌⊎◌, ℕ, Bool, true, false, ◌==◌, ◌||◌, cond, List, [], ◌∷◌, ◌++◌, Option, Some, None, ap, sym, subst, refl, inl, inr}
use Rattle.std.proofs.lemmas.Bool.{both_ways, cases_Bool, cond-false, cond_both, eqb-true}
use Rattle.std.specs.FinMap.{get, get-empty}
use Rattle.std.specs.Ordering.{nat_cmp}
use Rattle.nb_core.specs.Calls.{leaves_alone}
use Rattle.nb_core.specs.History.{key_of_call}
use Rattle.nb_core.specs.Log.{Entry, IsReplayed, map_of_log, reply_of}
use Rattle.nb_core.specs.declared.calls.Call.TheVariants.{Get, Write}
use Rattle.nb_core.specs.declared.calls.Reply.{Reply}
use Rattle.nb_map.specs.FirstPut.{HasHad}
use Rattle.nb_migration.specs.CoreCalls.{CoreCall, Copies, Closes, Freezes, IsMade, Looks, Marks, Writes, acting_event, called_key, entry_by, event_of, idle_event, is_answer, made_call, open_call, read_event}
use Rattle.nb_migration.specs.Numbers.{seen_of}
use Rattle.nb_migration.specs.Runs.{Calls, CoresHaveLogs, FindsFull, IsMove, AreTurns, Links, Move, Seals, Turn, core_log, event_by, history_of, log_with}
use Rattle.nb_migration.specs.Shown.{ShowsState}
use Rattle.nb_migration.specs.Writes.{answer_to}
use Rattle.nb_migration.specs.declared.numbers.Seen.{Seen}
use Rattle.nb_migration.specs.declared.numbers.Seen.TheVariants as seen
use Rattle.nb_migration.proofs.CallEvents.{calls_are_events}
use Rattle.nb_migration.proofs.ShownStates.{shows-other}
use Rattle.nb_moving.specs.Moving.{IsLegal, KeyPlace, MayFollow, becomes, change_at, followed, has_core, left_by, new_place, row_after, row_of, state_in}
use Rattle.nb_moving.specs.declared.events.Event.{Event}
use Rattle.nb_moving.specs.declared.events.Event.TheVariants as event
use Rattle.nb_moving.specs.declared.events.Link.{Link}
use Rattle.nb_moving.specs.declared.events.State.{State}
use Rattle.nb_moving.specs.declared.events.State.TheVariants.{Never, Number, Frozen, Closed, Full}

-- ---- what a key is in a core of its row, or in one to come

abbrev state_or : ℕ → List KeyPlace → State
state_or c [] = Never
state_or c (p ∷ row) = cond (p.core == c) p.state (state_or c row)

or-there : (c : ℕ) (row : List KeyPlace) → has_core c row ≡ true → state_or c row ≡ state_in c row
or-there c [] there = absurd (both_ways false refl there)
or-there c (p ∷ row) there = here (p.core == c) there (or-there c row)
  where
    here : (b : Bool) → (b || has_core c row) ≡ true
        → (has_core c row ≡ true → state_or c row ≡ state_in c row)
        → cond b p.state (state_or c row) ≡ cond b p.state (state_in c row)
    here true there more = refl
    here false there more = more there

same_branch : {A : Type 0} (b : Bool) (x : A) → cond b x x ≡ x
same_branch true x = refl
same_branch false x = refl

or-append : (c x : ℕ) (row : List KeyPlace) → state_or c (row ++ new_place x) ≡ state_or c row
or-append c x [] = same_branch (x == c) Never
or-append c x (p ∷ row) = ap (cond (p.core == c) p.state) (or-append c x row)

-- ---- a change of one place

abbrev put : State → KeyPlace → KeyPlace
put s p = record p { state = s }

abbrev seal : KeyPlace → KeyPlace
seal p = record p { sealed = true }

has-put :
    (c d : ℕ) (s : State) (row : List KeyPlace) → has_core c (change_at d (put s) row) ≡ has_core c row
has-put c d s [] = refl
has-put c d s (p ∷ row) =
    cond_both (p.core == d) (put s p ∷ row) (p ∷ change_at d (put s) row)
    (λ r. has_core c r ≡ (p.core == c || has_core c row)) (λ own. refl)
    (λ other. ap (λ b. p.core == c || b) (has-put c d s row))

or-seal :
    (c d : ℕ) (row : List KeyPlace) → state_or c (change_at d seal row) ≡ state_or c row
or-seal c d [] = refl
or-seal c d (p ∷ row) =
    cond_both (p.core == d) (seal p ∷ row) (p ∷ change_at d seal row)
    (λ r. state_or c r ≡ cond (p.core == c) p.state (state_or c row)) (λ own. refl)
    (λ other. ap (cond (p.core == c) p.state) (or-seal c d row))

or-put :
    (c d : ℕ) (s : State) (row : List KeyPlace) → (d == c) ≡ false
    → state_or c (change_at d (put s) row) ≡ state_or c row
or-put c d s [] other = refl
or-put c d s (p ∷ row) other =
    cond_both (p.core == d) (put s p ∷ row) (p ∷ change_at d (put s) row)
    (λ r. state_or c r ≡ cond (p.core == c) p.state (state_or c row))
    (λ own. let differs : (p.core == c) ≡ false =
    ap (λ x. x == c) (eqb-true p.core d own) ∙ other in
    cond-false (p.core == c) s (state_or c row) differs
    ∙ sym (cond-false (p.core == c) p.state (state_or c row) differs))
    (λ more. ap (cond (p.core == c) p.state) (or-put c d s row other))

-- where a key that never had a number is without a slot
or-full :
    (c d : ℕ) (row : List KeyPlace) → state_in d row ≡ Never → (P : State → Type 0)
    → (P Never → P Full) → P (state_or c row) → P (state_or c (change_at d (put Full) row))
or-full c d [] at P full is = is
or-full c d (p ∷ row) at P full is =
    here (p.core == d) at (λ never. or-full c d row never P full)
  where
    own : (x : Bool) (o : State) → p.state ≡ Never → P (cond x p.state o) → P (cond x Full o)
    own true o never is = full (subst P never is)
    own false o never is = is

    other : (x : Bool) (o o' : State) → (P o → P o') → P (cond x p.state o) → P (cond x p.state o')
    other true o o' more is = is
    other false o o' more is = more is

    here : (b : Bool) → cond b p.state (state_in d row) ≡ Never
        → (state_in d row ≡ Never → P (state_or c row) → P (state_or c (change_at d (put Full) row)))
        → P (state_or c (cond b (put Full p ∷ row) (p ∷ change_at d (put Full) row)))
    here true never more = own (p.core == c) (state_or c row) never is
    here false never more =
        other (p.core == c) (state_or c row) (state_or c (change_at d (put Full) row)) (more never) is

-- ---- the event of a call changes one key in one core

abbrev Touches : (k d : ℕ) → Event → Type 0
Touches k d e =
    (key : ℕ) (row : List KeyPlace) → (row_after e key row ≡ row)
    ⊎ ((s : State) × (row_after e key row ≡ becomes k key d s row))

read-touches : (t d k q : ℕ) (shown : Seen) → Touches k d (read_event t d q shown)
read-touches t d k q (seen.Open n) key row = inl refl
read-touches t d k q (seen.Frozen n) key row = inl refl
read-touches t d k q seen.Closed key row = inl refl
read-touches t d k q seen.Absent key row = inl refl

idle-touches :
    (t d k : ℕ) (call : CoreCall) (reply : Reply) → Touches k d (idle_event t d call reply)
idle-touches t d k (Looks true key) reply q row =
    read-touches t d k key (seen_of reply.before) q row
idle-touches t d k (Looks false key) reply q row = inl refl
idle-touches t d k (Writes true write) reply q row =
    cond_both (is_answer (answer_to (open_call write) reply.before))
    (event.Read t d write reply) (event.Look t d (key_of_call write))
    (λ e. (row_after e q row ≡ row) ⊎ ((s : State) × (row_after e q row ≡ becomes k q d s row)))
    (λ read. inl refl) (λ look. inl refl)
idle-touches t d k (Writes false write) reply q row = inl refl
idle-touches t d k (Freezes key n) reply q row = inl refl
idle-touches t d k (Marks to key n) reply q row = inl refl
idle-touches t d k (Closes key had) reply q row = inl refl
idle-touches t d k (Copies from key n) reply q row = inl refl

acting-touches :
    (t d : ℕ) (call : CoreCall) (reply : Reply)
    → Touches (called_key call) d (acting_event t d call reply)
acting-touches t d (Looks answers key) reply q row = inl refl
acting-touches t d (Writes answers (Get key)) reply q row = inr (left_by (Get key) reply.before, refl)
acting-touches t d (Writes answers (Write key want change)) reply q row =
    inr (left_by (Write key want change) reply.before, refl)
acting-touches t d (Freezes key n) reply q row = inr (Frozen n, refl)
acting-touches t d (Marks to key n) reply q row = inr (Closed true, refl)
acting-touches t d (Closes key had) reply q row = inr (Closed had, refl)
acting-touches t d (Copies from key n) reply q row = inr (Number n, refl)

event-touches :
    (t d : ℕ) (call : CoreCall) (reply : Reply)
    → Touches (called_key call) d (event_of t d call reply)
event-touches t d call reply =
    cond_both (leaves_alone (made_call call) reply.before) (idle_event t d call reply)
    (acting_event t d call reply) (Touches (called_key call) d)
    (λ alone. idle-touches t d (called_key call) call reply)
    (λ acts. acting-touches t d call reply)

module _ (k d : ℕ) (e : Event) (touches : Touches k d e) (key : ℕ) (row : List KeyPlace) where
  touched-has : (c : ℕ) → has_core c (row_after e key row) ≡ has_core c row
  touched-has c = elim (touches key row) [
    | inl same ↦ ap (has_core c) same
    | inr (s, is) ↦
        ap (has_core c) is
        ∙ cond_both (k == key) (change_at d (put s) row) row (λ r. has_core c r ≡ has_core c row)
        (λ own. has-put c d s row) (λ other. refl)
  ]

  touched-core : (c : ℕ) → (d == c) ≡ false → state_or c (row_after e key row) ≡ state_or c row
  touched-core c other = elim (touches key row) [
    | inl same ↦ ap (state_or c) same
    | inr (s, is) ↦
        ap (state_or c) is
        ∙ cond_both (k == key) (change_at d (put s) row) row (λ r. state_or c r ≡ state_or c row)
        (λ own. or-put c d s row other) (λ more. refl)
  ]

  touched-key : (k == key) ≡ false → row_after e key row ≡ row
  touched-key other = elim (touches key row) [
    | inl same ↦ same
    | inr (s, is) ↦ is ∙ cond-false (k == key) (change_at d (put s) row) row other
  ]

-- ---- one turn

-- each core's log shows what each key is there
abbrev AreShown : List Event → (ℕ → List Entry) → Type 0
AreShown h log = (c key : ℕ) → ShowsState (log c) key (state_or c (row_of h key))

module _ (h : List Event) (log : ℕ → List Entry) (t d : ℕ) (before : AreShown h log) where
  -- the logs after a move in core d
  abbrev pub logs : Move → ℕ → List Entry
  logs move c = cond (d == c) (log_with move (log c)) (log c)

  abbrev pub Goes : Move → Type 0
  Goes move = MayFollow h (event_by t d move) × AreShown (event_by t d move ∷ h) (logs move)

  -- a move that is in no log, and leaves what each key is
  unlogged :
      (move : Move) → ((l : List Entry) → log_with move l ≡ l)
      → MayFollow h (event_by t d move)
      → ((c key : ℕ) → state_or c (row_after (event_by t d move) key (row_of h key))
      ≡ state_or c (row_of h key))
      → Goes move
  unlogged move same may states = (
    may,
    λ c key.
        subst (λ l. ShowsState l key (state_or c (row_after (event_by t d move) key (row_of h key))))
        (sym (ap (λ l. cond (d == c) l (log c)) (same (log c)) ∙ same_branch (d == c) (log c)))
        (subst (ShowsState (log c) key) (sym (states c key)) (before c key)),
  )

  link-goes : (link : Link) → MayFollow h (event.Begin t d link) → Goes (Links link)
  link-goes link may = unlogged (Links link) (λ l. refl) may (λ c key.
      let row = row_of h key in
      let x = followed link key in
      cond_both (has_core d row) (row ++ new_place x) row (λ r. state_or c r ≡ state_or c row)
      (λ there. or-append c x row) (λ other. refl))

  seal-goes : MayFollow h (event.Seal t d) → Goes Seals
  seal-goes may = unlogged Seals (λ l. refl) may (λ c key. or-seal c d (row_of h key))

  full-goes : (k : ℕ) → MayFollow h (event.Fill t d k) → Goes (FindsFull k)
  full-goes k may = (
    may,
    λ c key.
        let row = row_of h key in
        subst (λ l. ShowsState l key (state_or c (becomes k key d Full row)))
        (sym (same_branch (d == c) (log c)))
        (cond_both (k == key) (change_at d (put Full) row) row (λ r. ShowsState (log c) key (state_or c r))
        (λ own. or-full c d row
        (subst (λ q. state_in d (row_of h q) ≡ Never) (eqb-true k key own) may.1)
        (ShowsState (log c) key) (λ shows. record { number = shows.number; past = shows.past })
        (before c key))
        (λ other. before c key)),
  )

  call-goes :
      (seat : ℕ) (call : CoreCall) (reply : Reply) → IsMade h (log d) t d call reply
      → Goes (Calls seat call reply)
  call-goes seat call reply made = (
    follows.0,
    λ c key.
        cond_both (d == c) (entry ∷ log c) (log c) (λ l. ShowsState l key (state_or c (row key)))
        (λ own. subst (λ c. ShowsState (entry ∷ log c) key (state_or c (row key))) (eqb-true d c own)
        (here key))
        (λ other. subst (ShowsState (log c) key)
        (sym (touched-core k d e touches key (row_of h key) c other)) (before c key)),
  )
    where
      k : ℕ
      k = called_key call

      entry : Entry
      entry = entry_by seat call reply

      e : Event
      e = event_of t d call reply

      row : ℕ → List KeyPlace
      row key = row_after e key (row_of h key)

      touches : Touches k d e
      touches = event-touches t d call reply

      follows : MayFollow h e × ShowsState (entry ∷ log d) k (state_in d (row k))
      follows = calls_are_events h (log d) t d seat call reply made
          (subst (ShowsState (log d) k) (or-there d (row_of h k) made.there) (before d k))

      own-key : ShowsState (entry ∷ log d) k (state_or d (row k))
      own-key = subst (ShowsState (entry ∷ log d) k)
          (sym (or-there d (row k) (touched-has k d e touches k (row_of h k) d ∙ made.there)))
          follows.1

      here : (key : ℕ) → ShowsState (entry ∷ log d) key (state_or d (row key))
      here key = elim (cases_Bool (k == key)) [
        | inl own ↦
            subst (λ q. ShowsState (entry ∷ log d) q (state_or d (row q))) (eqb-true k key own) own-key
        | inr other ↦
            subst (λ r. ShowsState (entry ∷ log d) key (state_or d r))
            (sym (touched-key k d e touches key (row_of h key) other))
            (shows-other entry (log d) key (state_or d (row_of h key)) other (before d key))
      ]

  goes : (move : Move) → IsMove h (log d) t d move → Goes move
  goes (Calls seat call reply) made = call-goes seat call reply made
  goes (Links link) may = link-goes link may
  goes Seals may = seal-goes may
  goes (FindsFull key) may = full-goes key may

-- ---- a run

none-had : (key : ℕ) → HasHad [] key → ⊥
none-had key had = none had.begun.later had.earlier had.begun.is had.number had.had
  where
    none : (later earlier : List Entry) → [] ≡ later ++ earlier → (n : ℕ)
        → get (map_of_log earlier) key ≡ Some n → ⊥
    none [] earlier is n at =
        let both : ◌≡◌ {A = Option ℕ} None (Some n) =
        sym (get-empty nat_cmp key) ∙ subst (λ l. get (map_of_log l) key ≡ Some n) (sym is) at in cc
    none (x ∷ later) earlier is n at = cc

all-shown : (run : List Turn) → AreTurns run → IsLegal (history_of run) × AreShown (history_of run) (core_log run)
all-shown [] is = (
  tt,
  λ c key.
      subst (ShowsState [] key) (sym (same_branch (0 == c) Never))
      (record { number = get-empty nat_cmp key; past = none-had key }),
)
all-shown (turn ∷ run) is =
    let before = all-shown run is.0 in
    let after =
    goes (history_of run) (core_log run) turn.thread turn.core before.1 turn.move is.1 in
    ((before.0, after.0), after.1)

all-replayed : (run : List Turn) → AreTurns run → (c : ℕ) → IsReplayed (core_log run c)
all-replayed [] is c = tt
all-replayed (turn ∷ run) is c =
    let before = all-replayed run is.0 c in
    cond_both (turn.core == c) (log_with turn.move (core_log run c)) (core_log run c) IsReplayed
    (λ own. logged turn.move is.1 (eqb-true turn.core c own) before) (λ other. before)
  where
    logged : (move : Move)
        → IsMove (history_of run) (core_log run turn.core) turn.thread turn.core move → turn.core ≡ c
        → IsReplayed (core_log run c) → IsReplayed (log_with move (core_log run c))
    logged (Calls seat call reply) made same before = (
      subst (λ c. reply ≡ reply_of (made_call call) (map_of_log (core_log run c))) same made.replied,
      before,
    )
    logged (Links link) may same before = before
    logged Seals may same before = before
    logged (FindsFull key) may same before = before

pub cores_have_logs : CoresHaveLogs
cores_have_logs run is =
    let all = all-shown run is in
    record {
      replayed = all-replayed run is;
      legal = all.0;
      shown = λ c key there.
          subst (ShowsState (core_log run c) key) (or-there c (row_of (history_of run) key) there)
          (all.1 c key);
    }
