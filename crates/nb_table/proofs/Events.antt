-- The events of each step but a load, by the word that it finds: a step is one only where it
-- changes its word.
use Rattle.std.specs.Prelude.{ℕ, ◌%◌, ◌==◌, nat_le, Bool, true, false, if◌then◌else◌, List, [], ◌∷◌}
use Rattle.nb_core.specs.History.{number_in_value}
use Rattle.nb_core.specs.States.{shown_by_value, value_in_word, value_word}
use Rattle.nb_core.specs.declared.calls.Call.{Call}
use Rattle.nb_core.specs.declared.events.Event.{Event}
use Rattle.nb_core.specs.declared.events.Event.TheVariants.{Claim, Kill, Won, CopyIn, Prime, Finish, Install, Take, Count, Promote}
use Rattle.nb_core.specs.declared.states.ValueState.{ValueState}
use Rattle.nb_core.specs.declared.states.ValueState.TheVariants.{Primed}
use Rattle.nb_table.specs.Events.{only, read}

-- ---- steps on keys

-- a key may come only to an empty slot
abbrev pub claim_events : (number g i k : ℕ) → ℕ → List Event
claim_events number g i k found = only (found == 0) (Claim number g i k)

-- and only an empty slot is closed to keys
abbrev pub kill_events : (number g i : ℕ) → ℕ → List Event
kill_events number g i found = only (found == 0) (Kill number g i)

-- ---- steps on values

-- a call wins its exchange where it finds the word that it replaces, and replies the content of
-- that; what it finds else may be its read
abbrev pub win_events :
    (number g i : ℕ) (from to : ValueState) (call : Call) → ℕ → List Event
win_events number g i from to call found =
    if found == value_word from
    then Won number g i from to call
    (record { before = number_in_value from; matched = true }) ∷ []
    else read number call (shown_by_value (value_in_word found))

-- a number is copied only where the value is null
abbrev pub copy_events : (number g i k n : ℕ) → ℕ → List Event
copy_events number g i k n found = only (found == 0) (CopyIn number g i k n)

-- a value is primed where its word is even: then it isn't primed yet
abbrev pub prime_events : (number g i : ℕ) → ℕ → List Event
prime_events number g i found = only (found % 2 == 0) (Prime number g i)

-- the value is a number that is primed, and not finished
abbrev pub is_primed_number : ValueState → Bool
is_primed_number (Primed n) = true
is_primed_number other = false

-- a number is finished where it is still primed
abbrev pub finish_events : (number g i : ℕ) → ℕ → List Event
finish_events number g i found = only (is_primed_number (value_in_word found)) (Finish number g i)

-- ---- steps on headers

-- a table is installed only where there is no next one
abbrev pub install_events : (number g k : ℕ) → ℕ → List Event
install_events number g k found = only (found == 0) (Install number g k)

-- each fetch-add of a take word or of a done word is an event
abbrev pub take_events : (number g : ℕ) → ℕ → List Event
take_events number g found = Take number g ∷ []

abbrev pub count_events : (number g c : ℕ) → ℕ → List Event
count_events number g c found = Count number g c ∷ []

-- the top word is raised past the table, if it isn't higher already
abbrev pub promote_events : (number g : ℕ) → ℕ → List Event
promote_events number g found = only (nat_le found g) (Promote number g)
