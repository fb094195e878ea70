-- What the words of a slot mean.
use Rattle.std.specs.Prelude.{◌≡◌, ℕ, ◌+◌, ◌-◌, ◌*◌, ◌/◌, ◌%◌, ◌==◌, ◌≤◌, nat_lt, if◌then◌else◌, unwrap_or, Option, Some, None}
use Rattle.nb_core.specs.declared.numbers.TheConstants.{KEY_MAX, VALUE_MAX}
use Rattle.nb_core.specs.declared.states.KeyState.{KeyState}
use Rattle.nb_core.specs.declared.states.KeyState.TheVariants.{Empty, Dead, Claimed}
use Rattle.nb_core.specs.declared.states.ValueState.{ValueState}
use Rattle.nb_core.specs.declared.states.ValueState.TheVariants.{Null, Tombstone, Live, PrimedNull, PrimedTombstone, Primed, Finished}

-- the key plus two; 0 and 1 are for slots with no key
abbrev pub key_word : KeyState → ℕ
key_word Empty = 0
key_word Dead = 1
key_word (Claimed k) = k + 2

-- what a key word holds; every word is one
abbrev pub key_state : ℕ → KeyState
key_state w = if w == 0 then Empty else if w == 1 then Dead else Claimed (w - 2)

-- the content times four, plus two for a number that was copied, plus one for a primed value
abbrev pub value_word : ValueState → ℕ
value_word Null = 0
value_word PrimedNull = 1
value_word Tombstone = 4
value_word PrimedTombstone = 5
value_word (Live n) = 4 * n + 8
value_word (Primed n) = 4 * n + 9
value_word (Finished n) = 4 * n + 11

-- what a word holds that is a number with these two flags
abbrev pub number_state : ℕ → ℕ → Option ValueState
number_state n flags =
    if nat_lt VALUE_MAX n then None
    else if flags == 0 then Some (Live n)
    else if flags == 1 then Some (Primed n)
    else if flags == 3 then Some (Finished n)
    else None

-- what a value word holds; not every word is one
abbrev pub value_state : ℕ → Option ValueState
value_state w =
    if w == 0 then Some Null
    else if w == 1 then Some PrimedNull
    else if w == 4 then Some Tombstone
    else if w == 5 then Some PrimedTombstone
    else if nat_lt w 8 then None
    else number_state (w / 4 - 2) (w % 4)

-- the value that a value word stands for
abbrev pub value_in_word : ℕ → ValueState
value_in_word w = unwrap_or (value_state w) Null

-- what the value in a key's slot shows of the key: the number in it, or that there is none; once it
-- is primed, nothing
abbrev pub shown_by_value : ValueState → Option (Option ℕ)
shown_by_value Null = Some None
shown_by_value Tombstone = Some None
shown_by_value (Live n) = Some (Some n)
shown_by_value PrimedNull = None
shown_by_value PrimedTombstone = None
shown_by_value (Primed n) = None
shown_by_value (Finished n) = None

-- the state's key, if it has one, is a key of the map
abbrev pub IsKeyState : KeyState → Type 0
IsKeyState Empty = Unit {0}
IsKeyState Dead = Unit {0}
IsKeyState (Claimed k) = k ≤ KEY_MAX

-- the state's number, if it has one, is a number of the map
abbrev pub IsValueState : ValueState → Type 0
IsValueState Null = Unit {0}
IsValueState Tombstone = Unit {0}
IsValueState (Live n) = n ≤ VALUE_MAX
IsValueState PrimedNull = Unit {0}
IsValueState PrimedTombstone = Unit {0}
IsValueState (Primed n) = n ≤ VALUE_MAX
IsValueState (Finished n) = n ≤ VALUE_MAX

-- the word stands for a state of a value
pub record IsValueWord (word : ℕ) : Type 0 where
  pub state : ValueState
  pub decodes : value_state word ≡ Some state

-- the same value, primed
abbrev pub primed : ValueState → ValueState
primed Null = PrimedNull
primed Tombstone = PrimedTombstone
primed (Live n) = Primed n
primed PrimedNull = PrimedNull
primed PrimedTombstone = PrimedTombstone
primed (Primed n) = Primed n
primed (Finished n) = Finished n
