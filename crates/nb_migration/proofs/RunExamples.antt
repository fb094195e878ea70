-- An example of a run: each turn is made after those before it.
use Rattle.std.proofs.Common.{◌≡◌, ◌∙◌, ℕ, ◌==◌, true, false, List, [], ◌∷◌, ◌++◌, Some, None, ap, sym, subst, refl, arith}
use Rattle.std.proofs.lemmas.Bool.{cond_both}
use Rattle.nb_core.specs.Log.{map_of_log, reply_at}
use Rattle.nb_core.specs.declared.calls.Reply.{Reply}
use Rattle.nb_map.specs.NamedCalls.{put_of}
use Rattle.nb_migration.specs.CoreCalls.{AreUsers, CoreCall, Copies, Freezes, HasFoundPast, IsMade, KnowsOthers, Looks, Marks, Writes, called_key, event_of, made_call}
use Rattle.nb_migration.specs.Examples.{a_key_moves, met, turn, unmet}
use Rattle.nb_migration.specs.Numbers.{frozen_of}
use Rattle.nb_migration.specs.Runs.{AreTurns, Calls, Links, Turn, core_log, history_of}
use Rattle.nb_migration.specs.Shown.{HasPast, ShowsState, number_of_state}
use Rattle.nb_migration.specs.declared.numbers.TheConstants.{CLOSED}
use Rattle.nb_migration.proofs.CallEvents.{reply_at-map}
use Rattle.nb_migration.proofs.OpenWrites.{put-open}
use Rattle.nb_migration.proofs.RunLogs.{cores_have_logs}
use Rattle.nb_moving.specs.Moving.{HasSeenFrozen, change_at, has_core, new_place, row_of, state_in}
use Rattle.nb_moving.specs.declared.events.Event.{Event}
use Rattle.nb_moving.specs.declared.events.Event.TheVariants.{Copy}
use Rattle.nb_moving.specs.declared.events.State.{State}
use Rattle.nb_moving.specs.declared.events.State.TheVariants.{Never, Number, Frozen, Closed, Full}
use Rattle.nb_moving.specs.declared.events.Link.TheVariants.{One}

-- a call is made after a run, whose history says what its key is there
made-after :
    (run : List Turn) → AreTurns run → (t c : ℕ) (call : CoreCall) (reply : Reply) (s : State)
    → has_core c (row_of (history_of run) (called_key call)) ≡ true
    → state_in c (row_of (history_of run) (called_key call)) ≡ s → AreUsers call
    → reply ≡ reply_at (made_call call) (number_of_state s)
    → (HasPast s (core_log run c) (called_key call) → HasFoundPast call (core_log run c))
    → (s ≡ Full → ⊥) → KnowsOthers (history_of run) (event_of t c call reply)
    → IsMade (history_of run) (core_log run c) t c call reply
made-after run are t c call reply s there at users answers past room knows =
    let shows : ShowsState (core_log run c) (called_key call) s =
    subst (ShowsState (core_log run c) (called_key call)) at
    ((cores_have_logs run are).shown c (called_key call) there) in
    record {
      there = there;
      users = users;
      replied = answers ∙ ap (reply_at (made_call call)) (sym shows.number)
          ∙ reply_at-map (made_call call) (map_of_log (core_log run c));
      found = λ acts. past shows.past;
      full = λ full. absurd (room (sym at ∙ full));
      knows = knows;
    }

-- the beginnings of the run
abbrev written : List Turn
written = turn 0 0 (Calls 0 (Writes true (put_of 5 10)) (met None)) ∷ []

abbrev begun : List Turn
begun = turn 0 0 (Links (One 1)) ∷ written

abbrev frozen : List Turn
frozen = turn 0 0 (Calls 0 (Freezes 5 10) (met (Some 10))) ∷ begun

abbrev missed : List Turn
missed = turn 1 0 (Calls 1 (Writes true (put_of 5 11)) (unmet (Some (frozen_of 10)))) ∷ frozen

abbrev copied : List Turn
copied = turn 0 1 (Calls 0 (Copies 0 5 10) (met None)) ∷ missed

abbrev marked : List Turn
marked = turn 0 0 (Calls 0 (Marks 1 5 10) (met (Some (frozen_of 10)))) ∷ copied

abbrev gone_on : List Turn
gone_on = turn 1 0 (Calls 1 (Looks false 5) (met (Some CLOSED))) ∷ marked

written-turns : AreTurns written
written-turns = (
  tt,
  made-after [] tt 0 0 (Writes true (put_of 5 10)) (met None) Never refl refl
      (put-open 5 10 (omega arith)) refl (λ past. tt) (λ e. cc) refl,
)

begun-turns : AreTurns begun
begun-turns = (
  written-turns,
  record {
    there = (5, refl);
    once = refl;
    new = λ q key.
        cond_both (5 == key) (change_at 0 (λ p. record p { state = Number 10 }) (new_place 0))
        (new_place 0) (λ row. has_core 1 row ≡ false) (λ own. refl) (λ other. refl);
  },
)

frozen-turns : AreTurns frozen
frozen-turns = (
  begun-turns,
  made-after begun begun-turns 0 0 (Freezes 5 10) (met (Some 10)) (Number 10) refl refl (omega arith)
      refl (λ past. tt) (λ e. cc) tt,
)

missed-turns : AreTurns missed
missed-turns = (
  frozen-turns,
  made-after frozen frozen-turns 1 0 (Writes true (put_of 5 11)) (unmet (Some (frozen_of 10)))
      (Frozen 10) refl refl (put-open 5 11 (omega arith)) refl (λ past. tt) (λ e. cc) tt,
)

-- what is known of the number at this moment
seen-frozen : (later : List Event) → HasSeenFrozen (later ++ history_of missed) 5 0 1 10
seen-frozen later = record {
  moment = history_of missed;
  earlier = record { later = later; is = refl };
  frozen = refl;
  reached = refl;
}

copied-turns : AreTurns copied
copied-turns = (
  missed-turns,
  made-after missed missed-turns 0 1 (Copies 0 5 10) (met None) Never refl refl (omega arith) refl
      (λ past. past) (λ e. cc) (seen-frozen []),
)

marked-turns : AreTurns marked
marked-turns = (
  copied-turns,
  made-after copied copied-turns 0 0 (Marks 1 5 10) (met (Some (frozen_of 10))) (Frozen 10) refl refl
      (omega arith) refl (λ past. tt) (λ e. cc) (seen-frozen (Copy 0 0 1 5 10 ∷ []), refl),
)

gone_on-turns : AreTurns gone_on
gone_on-turns = (
  marked-turns,
  made-after marked marked-turns 1 0 (Looks false 5) (met (Some CLOSED)) (Closed true) refl refl tt
      refl (λ past. tt) (λ e. cc) tt,
)

pub a_key-moves : AreTurns a_key_moves
a_key-moves = (
  gone_on-turns,
  made-after gone_on gone_on-turns 1 1 (Writes true (put_of 5 11)) (met (Some 10)) (Number 10) refl refl
      (put-open 5 11 (omega arith)) refl (λ past. tt) (λ e. cc) refl,
)
