-- What a look shows of a key, and whether it ever had a number, tells what it is in a core.
use Rattle.std.proofs.Common.{◌≡◌, ◌≢◌, ◌∙◌, ℕ, Bool, true, List, ap, sym, refl}
use Rattle.std.specs.FinMap.{get}
use Rattle.nb_core.specs.Log.{Entry, map_of_log}
use Rattle.nb_map.specs.FirstPut.{HasHad}
use Rattle.nb_migration.specs.Numbers.{seen_of}
use Rattle.nb_migration.specs.Shown.{HasPast, StatesAreTold, number_of_state}
use Rattle.nb_migration.specs.declared.numbers.Seen.{Seen}
use Rattle.nb_migration.specs.declared.numbers.Seen.TheVariants as seen
use Rattle.nb_migration.proofs.IdleCalls.{seen-frozen, seen-open}
use Rattle.nb_moving.specs.Moving.{had_number}
use Rattle.nb_moving.specs.declared.events.State.{State}
use Rattle.nb_moving.specs.declared.events.State.TheVariants.{Never, Number, Gone, Frozen, Closed, Full}

-- what a look shows of a key that is this there
abbrev shown : State → Seen
shown (Number n) = seen.Open n
shown (Frozen n) = seen.Frozen n
shown (Closed had) = seen.Closed
shown _ = seen.Absent

shows-so :
    (s : State) (log : List Entry) (key : ℕ) → HasPast s log key
    → seen_of (number_of_state s) ≡ shown s
shows-so Never log key past = refl
shows-so (Number n) log key past = seen-open n past
shows-so Gone log key past = refl
shows-so (Frozen n) log key past = seen-frozen n past
shows-so (Closed had) log key past = refl
shows-so Full log key past = refl

frozen-told : (s : State) (n : ℕ) → shown s ≡ seen.Frozen n → s ≡ Frozen n
frozen-told Never n is = absurd cc
frozen-told (Number m) n is = absurd cc
frozen-told Gone n is = absurd cc
frozen-told (Frozen m) n is = let same : m ≡ n = cc in ap Frozen same
frozen-told (Closed had) n is = absurd cc
frozen-told Full n is = absurd cc

closed-told : (s : State) → shown s ≡ seen.Closed → (had : Bool) × (s ≡ Closed had)
closed-told Never is = absurd cc
closed-told (Number m) is = absurd cc
closed-told Gone is = absurd cc
closed-told (Frozen m) is = absurd cc
closed-told (Closed had) is = (had, refl)
closed-told Full is = absurd cc

had-told :
    (s : State) (log : List Entry) (key : ℕ) → HasPast s log key → HasHad log key
    → shown s ≢ seen.Closed → had_number s ≡ true
had-told Never log key past had unmarked = absurd (past had)
had-told (Number n) log key past had unmarked = refl
had-told Gone log key past had unmarked = refl
had-told (Frozen n) log key past had unmarked = refl
had-told (Closed was) log key past had unmarked = absurd (unmarked refl)
had-told Full log key past had unmarked = absurd (past had)

pub states_are_told : StatesAreTold
states_are_told log key s shows =
    let is : seen_of (get (map_of_log log) key) ≡ shown s =
    ap seen_of shows.number ∙ shows-so s log key shows.past in
    record {
      frozen = λ n seen. frozen-told s n (sym is ∙ seen);
      closed = λ seen. closed-told s (sym is ∙ seen);
      had = λ had unmarked. had-told s log key shows.past had (λ closed. unmarked (is ∙ closed));
    }
