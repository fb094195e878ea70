-- With one worker the text is the plain map's, but for the commands that were refused for want of
-- room.
use Rattle.std.proofs.Common.{◌≡◌, ◌∙◌, ◌<◌, ◌≤◌, ℕ, zero, suc, Bool, true, false, cond, nat_lt, ltb-true, List, [], ◌∷◌, ◌++◌, length, map, take, drop, Option, Some, None, ap, ap₂, sym, subst, refl, inl, inr, append_assoc, append-nil, arith}
use Rattle.std.specs.Prelude.{slice_get}
use Rattle.std.specs.List.{All, flat_map}
use Rattle.std.specs.FinMap.{get, get-insert}
use Rattle.std.specs.Cmp.{nat_cmp_total, unsigned_tied}
use Rattle.std.proofs.lemmas.Bool.{cases_Bool, eq-eqb}
use Rattle.std.proofs.lemmas.Grind.{flat_map-append}
use Rattle.std.proofs.lemmas.List.{map-append}
use Rattle.std.proofs.lemmas.List.Elements.{All-append, All-cons, All-head, All-nil, All-tail}
use Rattle.nb_core.specs.Calls.{is_past_max, overflows}
use Rattle.nb_core.specs.Log.{Entry, IsBeginning, IsReplayed, Numbers, calls_of, changed, holds_of, log_of, map_after, map_of_log, reply_of, with_at}
use Rattle.nb_core.specs.History.{IsLegal}
use Rattle.nb_core.specs.Laws.{HasLog}
use Rattle.nb_core.specs.Plans.{IsPlan, Plan}
use Rattle.nb_core.specs.declared.numbers.TheConstants.{VALUE_MAX}
use Rattle.nb_core.specs.declared.calls.Call.{Call}
use Rattle.nb_core.specs.declared.calls.Call.TheVariants as call
use Rattle.nb_core.specs.declared.calls.Reply.{Reply}
use Rattle.nb_core.specs.declared.events.Event.{Event}
use Rattle.nb_core.specs.declared.events.Event.TheVariants.{Read, Won}
use Rattle.nb_core.proofs.Theorems.{beginnings_are_legal, crowded_absent, log_is_replayed, map_in_range}
use Rattle.nb_script.specs.Script.{Bytes, Phase}
use Rattle.nb_runner.specs.Text.{answer_line, answer_of, call_of, ending, map_behind, map_after_command, shown, text_from}
use Rattle.nb_runner.specs.Told.{ArePhasesTold, AreTold, HasDone, IsCallShown, IsCommandTold, IsLoneText, IsPhaseTold, IsToldBy, MayCrowd, Refusals, WasCrowded, all_commands, key_of_command, phase_text}
use Rattle.nb_runner.specs.Working.{commands_in, commands_of}
use Rattle.nb_runner.specs.declared.answers.Answer.{Answer}
use Rattle.nb_runner.specs.declared.answers.Answer.TheVariants as answer
use Rattle.nb_script.specs.declared.script.Command.{Command}
use Rattle.nb_runner.proofs.CallLemmas.{Calls, beginning-more}
use Rattle.nb_runner.proofs.Fullness.{AreJust, commands-first, commands-lone, commands-none, just-append, just-at}

-- ---- a plain map

-- What a command with this answer does to a plain map. Where it was refused for want of room, its
-- key is absent and it leaves the map; else it answers as on the map.
abbrev pub IsPlain : Command → Answer → (before after : Numbers) → Type 0
IsPlain c answer.Full before after = (get before (key_of_command c) ≡ None) × (after ≡ before)
IsPlain c a before after = (a ≡ answer_of c before) × (after ≡ map_after_command c before)

-- the same of one command after another
abbrev pub ArePlain : List Command → List Answer → (before after : Numbers) → Type 0
ArePlain [] [] before after = after ≡ before
ArePlain [] (a ∷ answers) before after = ⊥
ArePlain (c ∷ cs) [] before after = ⊥
ArePlain (c ∷ cs) (a ∷ answers) before after = (next : Numbers) × IsPlain c a before next
    × ArePlain cs answers next after

plain-append :
    (cs ds : List Command) (answers more : List Answer) (before mid after : Numbers)
    → ArePlain cs answers before mid → ArePlain ds more mid after
    → ArePlain (cs ++ ds) (answers ++ more) before after
plain-append [] ds [] more before mid after first later =
    subst (λ m. ArePlain ds more m after) first later
plain-append [] ds (a ∷ answers) more before mid after first later = absurd first
plain-append (c ∷ cs) ds [] more before mid after first later = absurd first
plain-append (c ∷ cs) ds (a ∷ answers) more before mid after first later =
    (first.0, first.1, plain-append cs ds answers more first.0 mid after first.2 later)

-- ---- which commands were refused for want of room

abbrev is_full : Answer → Bool
is_full answer.Full = true
is_full _ = false

-- whether the answer at a place is that the map is full
abbrev full_at : List Answer → ℕ → Bool
full_at [] n = false
full_at (a ∷ answers) zero = is_full a
full_at (a ∷ answers) (suc n) = full_at answers n

full-is : (a : Answer) → is_full a ≡ true → a ≡ answer.Full
full-is answer.Full is = refl
full-is answer.Nothing is = absurd cc
full-is (answer.Value n) is = absurd cc
full-is (answer.Matched b) is = absurd cc
full-is answer.Range is = absurd cc

full-at :
    (answers : List Answer) (n : ℕ) → full_at answers n ≡ true
    → slice_get answers n ≡ Some answer.Full
full-at [] n is = absurd cc
full-at (a ∷ answers) zero is = ap Some (full-is a is)
full-at (a ∷ answers) (suc n) is = full-at answers n is

-- the map that a command with this answer leaves
plain-left :
    (c : Command) (a : Answer) (m next : Numbers) → IsPlain c a m next
    → cond (is_full a) m (map_after_command c m) ≡ next
plain-left c answer.Full m next is = sym is.1
plain-left c answer.Nothing m next is = sym is.1
plain-left c (answer.Value n) m next is = sym is.1
plain-left c (answer.Matched b) m next is = sym is.1
plain-left c answer.Range m next is = sym is.1

-- Where a command is refused for want of room, its key is absent from the map before it.
absent-at :
    (cs : List Command) (answers : List Answer) (m after : Numbers) → ArePlain cs answers m after
    → (n : ℕ) (c : Command)
    → full_at answers n ≡ true → slice_get cs n ≡ Some c
    → get (map_behind (full_at answers) m (take n cs)) (key_of_command c) ≡ None
absent-at [] [] m after plain n c full is = absurd cc
absent-at [] (a ∷ answers) m after plain n c full is = absurd plain
absent-at (d ∷ cs) [] m after plain n c full is = absurd plain
absent-at (d ∷ cs) (a ∷ answers) m after plain zero c full is =
    let same : d ≡ c = cc in
    subst (λ b. get m (key_of_command b) ≡ None) same
    (subst (λ b. IsPlain d b m plain.0) (full-is a full) plain.1).0
absent-at (d ∷ cs) (a ∷ answers) m after plain (suc n) c full is =
    subst (λ x. get (map_behind (full_at answers) x (take n cs)) (key_of_command c) ≡ None)
    (sym (plain-left d a m plain.0 plain.1))
    (absent-at cs answers plain.0 after plain.2 n c full is)

-- ---- the text

-- one line, and the text for the commands behind it
line-plain :
    (task : ℕ × Command) (tasks : Phase) (a : Answer) (full : ℕ → Bool) (m next : Numbers)
    (rest : Bytes) → task.0 ≡ 0 → a ≡ answer_of task.1 m
    → next ≡ map_after_command task.1 m → text_from full next tasks ≡ rest
    → answer_line task.0 (answer_of task.1 m) ++ text_from full (map_after_command task.1 m) tasks
    ≡ answer_line 0 a ++ rest
line-plain task tasks a full m next rest worker answer left told =
    ap (λ w. answer_line w (answer_of task.1 m) ++ text_from full (map_after_command task.1 m)
    tasks) worker
    ∙ ap (λ b. answer_line 0 b ++ text_from full (map_after_command task.1 m) tasks) (sym answer)
    ∙ ap (λ n. answer_line 0 a ++ text_from full n tasks) (sym left)
    ∙ ap (λ bytes. answer_line 0 a ++ bytes) told

text-one :
    (task : ℕ × Command) (tasks : Phase) (a : Answer) (answers : List Answer) (m next : Numbers)
    (rest : Bytes) → task.0 ≡ 0
    → IsPlain task.1 a m next → text_from (full_at answers) next tasks ≡ rest
    → text_from (full_at (a ∷ answers)) m (task ∷ tasks) ≡ answer_line 0 a ++ rest
text-one task tasks answer.Full answers m next rest worker is told =
    ap (λ w. answer_line w answer.Full ++ text_from (full_at answers) m tasks) worker
    ∙ ap (λ n. answer_line 0 answer.Full ++ text_from (full_at answers) n tasks) (sym is.1)
    ∙ ap (λ bytes. answer_line 0 answer.Full ++ bytes) told
text-one task tasks answer.Nothing answers m next rest worker is told =
    line-plain task tasks answer.Nothing (full_at answers) m next rest worker is.0 is.1 told
text-one task tasks (answer.Value n) answers m next rest worker is told =
    line-plain task tasks (answer.Value n) (full_at answers) m next rest worker is.0 is.1 told
text-one task tasks (answer.Matched b) answers m next rest worker is told =
    line-plain task tasks (answer.Matched b) (full_at answers) m next rest worker is.0 is.1 told
text-one task tasks answer.Range answers m next rest worker is told =
    line-plain task tasks answer.Range (full_at answers) m next rest worker is.0 is.1 told

-- the worker's number is the first
abbrev IsFirstWorkers : ℕ × Command → Type 0
IsFirstWorkers task = task.0 < 1

text-plain :
    (tasks : Phase) (answers : List Answer) (m after : Numbers) → All IsFirstWorkers tasks
    → ArePlain (map (λ task. task.1) tasks) answers m after
    → text_from (full_at answers) m tasks ≡ flat_map (answer_line 0) answers ++ ending after
text-plain [] [] m after below is = ap ending (sym is)
text-plain [] (a ∷ answers) m after below is = absurd is
text-plain (task ∷ tasks) [] m after below is = absurd is
text-plain (task ∷ tasks) (a ∷ answers) m after below is =
    let worker : task.0 ≡ 0 = omega (arith, All-head IsFirstWorkers task tasks below) in
    let rest = text-plain tasks answers is.0 after (All-tail IsFirstWorkers task tasks below)
    is.2 in
    text-one task tasks a answers m is.0 (flat_map (answer_line 0) answers ++ ending after)
    worker is.1 rest
    ∙ sym (append_assoc (answer_line 0 a) (flat_map (answer_line 0) answers) (ending after))

-- ---- all phases as one

all-flat :
    (phases : List Phase) → All (λ phase. All IsFirstWorkers phase) phases
    → All IsFirstWorkers (flat_map (λ phase. phase) phases)
all-flat [] below = All-nil IsFirstWorkers
all-flat (phase ∷ phases) below =
    let P : Phase → Type 0 = λ phase. All IsFirstWorkers phase in
    All-append IsFirstWorkers phase (flat_map (λ phase. phase) phases)
    (All-head P phase phases below)
    (all-flat phases (All-tail P phase phases below))

commands-flat :
    (phases : List Phase) → map (λ task. task.1) (flat_map (λ phase. phase) phases)
    ≡ all_commands phases
commands-flat [] = refl
commands-flat (phase ∷ phases) =
    map-append (λ (task : ℕ × Command). task.1) phase (flat_map (λ phase. phase) phases)
    ∙ ap (λ cs. map (λ task. task.1) phase ++ cs) (commands-flat phases)

-- ---- no call that was made was past the range

put-there : (m : Numbers) (k n : ℕ) → get (with_at m k (Some n)) k ≡ Some n
put-there m k n = get-insert nat_cmp_total m k n k
    ∙ ap (λ b. cond b (Some n) (get m k)) (unsigned_tied k k ∙ eq-eqb k k refl)

not-past : (n : ℕ) → n ≤ VALUE_MAX → nat_lt VALUE_MAX n ≡ false
not-past n within = elim (cases_Bool (nat_lt VALUE_MAX n)) [
  | inl past ↦ absurd (omega (arith, ltb-true VALUE_MAX n past, within))
  | inr is ↦ is
]

fits-at :
    (m : Numbers) (k : ℕ) (acts : Bool) (o : Option ℕ)
    → ((n : ℕ) → get (cond acts (with_at m k o) m) k ≡ Some n → n ≤ VALUE_MAX)
    → cond acts (is_past_max o) false ≡ false
fits-at m k false o within = refl
fits-at m k true None within = refl
fits-at m k true (Some n) within = not-past n (within n (put-there m k n))

-- where the map that a call leaves has numbers of the map alone, the call isn't past the range
fits :
    (c : Call) (m : Numbers) → ((k n : ℕ) → get (map_after c m) k ≡ Some n → n ≤ VALUE_MAX)
    → overflows c m ≡ false
fits (call.Get k) m within = refl
fits (call.Write k want change) m within =
    fits-at m k (holds_of want (get m k)) (changed change (get m k)) (λ n is. within k n is)

-- ---- a log of one seat alone

abbrev IsFirstEntry : Entry → Type 0
IsFirstEntry entry = entry.seat < 1

-- the first seat's call, as an entry
abbrev entry_by_first : Call × Reply → Entry
entry_by_first c = record { seat = 0; call = c.0; reply = c.1 }

all-first : (later log : List Entry) → All IsFirstEntry (later ++ log) → All IsFirstEntry later
all-first [] log all = All-nil IsFirstEntry
all-first (entry ∷ later) log all =
    All-cons IsFirstEntry entry later (All-head IsFirstEntry entry (later ++ log) all)
    (all-first later log (All-tail IsFirstEntry entry (later ++ log) all))

-- where all entries are the first seat's, they are its calls
lone-entries : (log : List Entry) → All IsFirstEntry log → log ≡ map entry_by_first (calls_of 0 log)
lone-entries [] all = refl
lone-entries (entry ∷ log) all =
    let zero : entry.seat ≡ 0 = omega (arith, All-head IsFirstEntry entry log all) in
    rw (eq-eqb entry.seat 0 zero)
    (ap₂ (λ s rest. record { seat = s; call = entry.call; reply = entry.reply } ∷ rest) zero
    (lone-entries log (All-tail IsFirstEntry entry log all)))

-- ---- moments of a legal history

-- at this moment the log was that of a legal history
record IsReached (p : Plan) (at : List Entry) : Type 0 where
  history : List Event
  legal : IsLegal p history
  is : log_of history ≡ at

-- so it was at each earlier moment
reached-before :
    (p : Plan) (h : List Event) (later at : List Entry) → IsLegal p h → log_of h ≡ later ++ at
    → IsReached p at
reached-before p h [] at legal is = record { history = h; legal = legal; is = is }
reached-before p [] (entry ∷ later) at legal is = absurd cc
reached-before p (Won s g i a b c r ∷ h) (entry ∷ later) at legal is =
    reached-before p h later at legal.0 (ap (drop 1) is)
reached-before p (Read s c r ∷ h) (entry ∷ later) at legal is =
    reached-before p h later at legal.0 (ap (drop 1) is)
reached-before p (_ ∷ h) (entry ∷ later) at legal is =
    reached-before p h (entry ∷ later) at legal.0 is

reached-begun :
    {p : Plan} {before after : List Entry} → IsBeginning before after → IsReached p after
    → IsReached p before
reached-begun {p} {before} begun r =
    reached-before p r.history begun.later before r.legal (r.is ∙ begun.is)

-- ---- one worker

module _
    (p : Plan) (plan : IsPlan p) (single : p.seats ≡ 1) (history : List Event)
    (legal : IsLegal p history)
  where
    abbrev full : Refusals
    full = WasCrowded p history

    has : {at : List Entry} (r : IsReached p at) → HasLog p r.history
    has r = log_is_replayed p plan r.history r.legal

    -- all that is new in the log is what the worker called
    called :
        (made : Calls) (before after : List Entry) → IsReached p after
        → HasDone 0 made before after → after ≡ map entry_by_first made ++ before
    called made before after r done =
        done.begun.is
        ∙ ap (λ later. later ++ before)
        (lone-entries done.begun.later (all-first done.begun.later before
        (subst (All IsFirstEntry) done.begun.is first)) ∙ ap (map entry_by_first) done.made)
      where
        first : All IsFirstEntry after
        first = subst (All IsFirstEntry) r.is
            (subst (λ n. All (λ entry. entry.seat < n) (log_of r.history)) single (has r).seats)

    -- The one call that was made answers as on the plain map.
    shown-plain :
        (c : Command) (a : Answer) (before after : List Entry) → IsReached p after
        → IsCallShown 0 c a before after
        → (a ≡ answer_of c (map_of_log before))
        × (map_of_log after ≡ map_after_command c (map_of_log before))
    shown-plain c a before after r is = (answered, left)
      where
        reply : Reply
        reply = is.0

        more : after ≡ record { seat = 0; call = call_of c; reply = reply } ∷ before
        more = called ((call_of c, reply) ∷ []) before after r is.2

        replies : IsReplayed (record { seat = 0; call = call_of c; reply = reply } ∷ before)
        replies = subst IsReplayed (r.is ∙ more) (has r).replayed

        then : map_of_log after ≡ map_after (call_of c) (map_of_log before)
        then = ap map_of_log more

        acts : overflows (call_of c) (map_of_log before) ≡ false
        acts = fits (call_of c) (map_of_log before)
            (λ k n there. (map_in_range p plan r.history r.legal k n
            (ap (λ x. get x k) (sym (has r).map ∙ ap map_of_log r.is ∙ then) ∙ there)).1)

        answered : a ≡ answer_of c (map_of_log before)
        answered =
            sym is.1 ∙ ap (shown c) replies.0
            ∙ sym (ap (λ b. cond b answer.Range (shown c (reply_of (call_of c) (map_of_log before))))
            acts)

        left : map_of_log after ≡ map_after_command c (map_of_log before)
        left = then
            ∙ sym (ap (λ b. cond b (map_of_log before) (map_after (call_of c) (map_of_log before)))
            acts)

    -- a refused call leaves the map
    refused-left :
        (before after : List Entry) → IsReached p after → HasDone 0 [] before after
        → map_of_log after ≡ map_of_log before
    refused-left before after r done = ap map_of_log (called [] before after r done)

    -- and where it is refused for want of room, its key is absent
    refused-absent :
        (so_far : List Command) (c : Command) (before after : List Entry) → IsReached p after
        → WasCrowded p history so_far c after → HasDone 0 [] before after
        → get (map_of_log before) (key_of_command c) ≡ None
    refused-absent so_far c before after r crowded done =
        ap (λ x. get x (key_of_command c))
        (sym (refused-left before after r done) ∙ ap map_of_log (sym crowded.2)
        ∙ (log_is_replayed p plan crowded.0 then).map)
        ∙ crowded_absent p plan crowded.0 then (key_of_command c) crowded.3
      where
        then : IsLegal p crowded.0
        then = beginnings_are_legal p crowded.1.later crowded.0
            (subst (IsLegal p) crowded.1.is legal)

    -- an add that is refused for its sum answers so on the plain map
    past-plain :
        (c : Command) (before after : List Entry) → map_of_log after ≡ map_of_log before
        → overflows (call_of c) (map_of_log after) ≡ true
        → (answer.Range ≡ answer_of c (map_of_log before))
        × (map_of_log after ≡ map_after_command c (map_of_log before))
    past-plain c before after same past = (
      sym (ap (λ b. cond b answer.Range (shown c (reply_of (call_of c) (map_of_log before)))) over),
      same
          ∙ sym (ap (λ b. cond b (map_of_log before) (map_after (call_of c) (map_of_log before)))
          over),
    )
      where
        over : overflows (call_of c) (map_of_log before) ≡ true
        over = ap (overflows (call_of c)) (sym same) ∙ past

    -- One command answers as on the plain map, or may find it full.
    command-plain :
        (so_far : List Command) (c : Command) (a : Answer) (before after : List Entry)
        → IsReached p after → IsCommandTold full so_far 0 c a before after
        → IsBeginning before after × IsPlain c a (map_of_log before) (map_of_log after)
        × (a ≡ answer.Full → MayCrowd p so_far c)
    command-plain so_far c answer.Nothing before after r is =
        (is.2.begun, shown-plain c answer.Nothing before after r is, λ same. absurd cc)
    command-plain so_far c (answer.Value n) before after r is =
        (is.2.begun, shown-plain c (answer.Value n) before after r is, λ same. absurd cc)
    command-plain so_far c (answer.Matched b) before after r is =
        (is.2.begun, shown-plain c (answer.Matched b) before after r is, λ same. absurd cc)
    command-plain so_far c answer.Full before after r is = (
      is.1.begun,
      (
        refused-absent so_far c before after r is.0 is.1,
        refused-left before after r is.1,
      ),
      λ same. is.0.5,
    )
    command-plain so_far c answer.Range before after r is = (
      is.1.begun,
      past-plain c before after (refused-left before after r is.1) is.0,
      λ same. absurd cc,
    )

    -- and so do some, one after another
    commands-plain :
        (so_far cs : List Command) (answers : List Answer) (before after : List Entry)
        → IsReached p after → AreTold full so_far 0 cs answers before after
        → IsBeginning before after × ArePlain cs answers (map_of_log before) (map_of_log after)
        × AreJust p so_far cs answers
    commands-plain so_far [] [] before after r is = (is.begun, refused-left before after r is, tt)
    commands-plain so_far [] (a ∷ answers) before after r is = absurd is
    commands-plain so_far (c ∷ cs) [] before after r is = absurd is
    commands-plain so_far (c ∷ cs) (a ∷ answers) before after r is =
        let rest = commands-plain (so_far ++ c ∷ []) cs answers is.0 after r is.2 in
        let one = command-plain so_far c a before is.0 (reached-begun rest.0 r) is.1 in (
          beginning-more one.0 rest.0,
          (map_of_log is.0, one.1, rest.1),
          (one.2, rest.2),
        )

    -- ---- a run

    -- all answers of a run, one after another
    abbrev flat : List (List (List Answer)) → List Answer
    flat answers = flat_map (flat_map (λ mine. mine)) answers

    -- what the one worker did in some phases, and the lines of its answers
    record HasRunPlain (so_far : List Command) (phases : List Phase)
        (answers : List (List (List Answer))) (before after : List Entry) : Type 0 where
      begun : IsBeginning before after
      plain :
          ArePlain (flat_map (commands_of 0) phases) (flat answers) (map_of_log before)
          (map_of_log after)
      just : AreJust p so_far (flat_map (commands_of 0) phases) (flat answers)
      lines : flat_map (phase_text 0) answers ≡ flat_map (answer_line 0) (flat answers)

    lines-more :
        (mine : List Answer) (answers : List (List (List Answer)))
        → flat_map (phase_text 0) answers ≡ flat_map (answer_line 0) (flat answers)
        → (flat_map (answer_line 0) mine ++ []) ++ flat_map (phase_text 0) answers
        ≡ flat_map (answer_line 0) ((mine ++ []) ++ flat answers)
    lines-more mine answers rest =
        ap (λ bytes. bytes ++ flat_map (phase_text 0) answers)
        (append-nil (flat_map (answer_line 0) mine))
        ∙ ap (λ bytes. flat_map (answer_line 0) mine ++ bytes) rest
        ∙ sym (flat_map-append (answer_line 0) mine (flat answers))
        ∙ ap (λ xs. flat_map (answer_line 0) (xs ++ flat answers)) (sym (append-nil mine))

    run-plain :
        (so_far : List Command) (phases : List Phase) (answers : List (List (List Answer)))
        (before after : List Entry) → All (All IsFirstWorkers) phases
        → All (λ phase. length phase ≡ p.seats) answers → IsReached p after
        → ArePhasesTold full so_far phases answers before after
        → HasRunPlain so_far phases answers before after
    run-plain so_far [] [] before after below each r told = record {
      begun = record { later = []; is = told };
      plain = ap map_of_log told;
      just = tt;
      lines = refl;
    }
    run-plain so_far [] (now ∷ answers) before after below each r told = absurd told
    run-plain so_far (phase ∷ phases) [] before after below each r told = absurd told
    run-plain so_far (phase ∷ phases) (now ∷ answers) before after below each r told =
        let rest = run-plain (so_far ++ commands_in phase) phases answers told.0 after
        (All-tail (All IsFirstWorkers) phase phases below) (All-tail IsOfSeats now answers each) r
        told.2 in
        of now (All-head IsOfSeats now answers each ∙ single) told.1 rest
      where
        IsOfSeats : List (List Answer) → Type 0
        IsOfSeats now = length now ≡ p.seats

        next : List Entry
        next = told.0

        first : All IsFirstWorkers phase
        first = All-head (All IsFirstWorkers) phase phases below

        -- the answers of the one worker alone
        of :
            (now : List (List Answer)) → length now ≡ 1
            → IsPhaseTold full so_far phase 0 now before next
            → HasRunPlain (so_far ++ commands_in phase) phases answers next after
            → HasRunPlain so_far (phase ∷ phases) (now ∷ answers) before after
        of [] one is rest = absurd cc
        of (mine ∷ other ∷ others) one is rest = absurd cc
        of (mine ∷ []) one is rest =
            let own = commands-plain so_far (commands_of 0 phase) mine before next
            (reached-begun rest.begun r)
            (subst (λ more. AreTold full more 0 (commands_of 0 phase) mine before next)
            (ap (λ others. so_far ++ others) (commands-none phase first) ∙ append-nil so_far) is.0) in
            record {
              begun = beginning-more own.0 rest.begun;
              plain =
                  plain-append (commands_of 0 phase) (flat_map (commands_of 0) phases) (mine ++ [])
                  (flat answers) (map_of_log before) (map_of_log next) (map_of_log after)
                  (subst (λ xs. ArePlain (commands_of 0 phase) xs (map_of_log before)
                  (map_of_log next)) (sym (append-nil mine)) own.1)
                  rest.plain;
              just =
                  just-append p so_far (commands_of 0 phase) (flat_map (commands_of 0) phases)
                  (mine ++ []) (flat answers)
                  (subst (AreJust p so_far (commands_of 0 phase)) (sym (append-nil mine)) own.2)
                  (subst (λ cs. AreJust p (so_far ++ cs) (flat_map (commands_of 0) phases)
                  (flat answers)) (sym (commands-first phase first)) rest.just);
              lines = lines-more mine answers rest.lines;
            }

-- With one worker, whose the commands are, what a history tells is the plain map's text, but for
-- commands that were refused for want of room.
pub lone-text :
    (p : Plan) → IsPlan p → p.seats ≡ 1 → (phases : List Phase) → All (All IsFirstWorkers) phases
    → (history : List Event) (text : Bytes)
    → IsToldBy p phases history text → IsLoneText p phases text
lone-text p plan single phases below history text told = record {
  full = full_at all;
  is =
      told.is
      ∙ ap (λ bytes. bytes ++ ending left) done.lines
      ∙ sym (text-plain (flat_map (λ phase. phase) phases) all map_none left (all-flat phases below)
      (subst (λ cs. ArePlain cs all map_none left) (same ∙ sym (commands-flat phases)) done.plain));
  absent = λ n c full is.
      subst (λ cs. get (map_behind (full_at all) map_none (take n cs)) (key_of_command c) ≡ None)
      same
      (absent-at (flat_map (commands_of 0) phases) all map_none left done.plain n c full
      (subst (λ cs. slice_get cs n ≡ Some c) (sym same) is));
  just = λ n c full is.
      subst (λ cs. MayCrowd p (take n cs) c) same
      (just-at p [] (flat_map (commands_of 0) phases) all done.just n c (full-at all n full)
      (subst (λ cs. slice_get cs n ≡ Some c) (sym same) is));
}
  where
    all : List Answer
    all = flat_map (flat_map (λ mine. mine)) told.answers

    same : flat_map (commands_of 0) phases ≡ all_commands phases
    same = commands-lone phases below

    map_none : Numbers
    map_none = map_of_log []

    left : Numbers
    left = map_of_log (log_of history)

    done : HasRunPlain p plan single history told.legal [] phases told.answers [] (log_of history)
    done = run-plain p plan single history told.legal [] phases told.answers [] (log_of history)
        below told.each
        (record { history = history; legal = told.legal; is = refl }) told.told
