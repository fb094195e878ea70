-- What a core's log shows of a key: what the key is there.
use Rattle.std.specs.Prelude.{◌≡◌, ◌≢◌, ℕ, ◌≤◌, Bool, true, false, List, Option, Some, None}
use Rattle.std.specs.FinMap.{get}
use Rattle.nb_core.specs.Log.{Entry, IsBeginning, map_of_log}
use Rattle.nb_map.specs.FirstPut.{HasHad}
use Rattle.nb_migration.specs.Numbers.{frozen_of, seen_of}
use Rattle.nb_migration.specs.declared.numbers.Seen.TheVariants as seen
use Rattle.nb_migration.specs.declared.numbers.TheConstants.{CLOSED, USER_MAX}
use Rattle.nb_moving.specs.Moving.{had_number}
use Rattle.nb_moving.specs.declared.events.State.{State}
use Rattle.nb_moving.specs.declared.events.State.TheVariants.{Never, Number, Gone, Frozen, Closed, Full}

-- what the core's map has at a key that is this there
abbrev pub number_of_state : State → Option ℕ
number_of_state (Number n) = Some n
number_of_state (Frozen n) = Some (frozen_of n)
number_of_state (Closed had) = Some CLOSED
number_of_state _ = None

-- at some moment of the log the map had a number at the key other than the mark
pub record HasHadNumber (whole : List Entry) (key : ℕ) : Type 0 where
  pub earlier : List Entry
  pub begun : IsBeginning earlier whole
  pub number : ℕ
  pub had : get (map_of_log earlier) key ≡ Some number
  pub unmarked : number ≢ CLOSED

-- what the log tells of the past of a key that is this there; and of a number, that it is the user's
abbrev pub HasPast : State → List Entry → (key : ℕ) → Type 0
HasPast Never log key = HasHad log key → ⊥
HasPast (Number n) log key = n ≤ USER_MAX
HasPast Gone log key = HasHadNumber log key
HasPast (Frozen n) log key = n ≤ USER_MAX
HasPast (Closed true) log key = HasHadNumber log key
HasPast (Closed false) log key = HasHadNumber log key → ⊥
HasPast Full log key = HasHad log key → ⊥

-- The core's log shows that the key is this there: by the number that its map has now, and by what it
-- ever had. It doesn't show whether there is a slot left for a key that never had a number.
pub record ShowsState (log : List Entry) (key : ℕ) (s : State) : Type 0 where
  pub number : get (map_of_log log) key ≡ number_of_state s
  pub past : HasPast s log key

-- What a look shows of a key, and whether it ever had a number, tells what it is there.
pub record TellsState (log : List Entry) (key : ℕ) (s : State) : Type 0 where
  pub frozen : (n : ℕ) → seen_of (get (map_of_log log) key) ≡ seen.Frozen n → s ≡ Frozen n
  pub closed : seen_of (get (map_of_log log) key) ≡ seen.Closed → (had : Bool) × (s ≡ Closed had)
  pub had : HasHad log key → seen_of (get (map_of_log log) key) ≢ seen.Closed
      → had_number s ≡ true

-- So the author of an event learns what he has to know of other cores.
abbrev pub StatesAreTold : Type 0
StatesAreTold =
    (log : List Entry) (key : ℕ) (s : State) → ShowsState log key s → TellsState log key s
