-- What the tables of a moment stand for, and what a history says of calls and keys.
use Rattle.std.specs.Prelude.{◌≡◌, ℕ, ℤ, pos, suc, zero, ◌-◌, ◌+ℤ◌, ◌-ℤ◌, ◌<◌, ◌≤◌, ◌==◌, ◌&&◌, not, Bool, true, false, if◌then◌else◌, List, [], ◌∷◌, length, take, count_by, Option, Some, None, option_map}
use Rattle.std.specs.FinMap as map
use Rattle.nb_core.specs.Log.{Entry, Numbers, calls_of}
use Rattle.nb_core.specs.Plans.{Plan, generations_of, size_of}
use Rattle.nb_core.specs.Tables.{IsOther, Tables, tables_at, tables_of}
use Rattle.nb_core.specs.History.{key_of_call}
use Rattle.nb_core.specs.declared.numbers.TheConstants.{KEY_MAX}
use Rattle.nb_core.specs.declared.calls.Call.{Call}
use Rattle.nb_core.specs.declared.calls.Call.TheVariants as call
use Rattle.nb_core.specs.declared.calls.Change.{Change}
use Rattle.nb_core.specs.declared.calls.Change.TheVariants as change
use Rattle.nb_core.specs.declared.calls.Reply.{Reply}
use Rattle.nb_core.specs.declared.events.Event.{Event}
use Rattle.nb_core.specs.declared.events.Event.TheVariants.{Won}
use Rattle.nb_core.specs.declared.states.KeyState.{KeyState}
use Rattle.nb_core.specs.declared.states.KeyState.TheVariants.{Empty, Dead, Claimed}
use Rattle.nb_core.specs.declared.states.ValueState.{ValueState}
use Rattle.nb_core.specs.declared.states.ValueState.TheVariants.{Null, Tombstone, Live, PrimedNull, PrimedTombstone, Primed, Finished}

-- ---- what the tables stand for

-- whether the slot is the key's
abbrev pub is_claimed_by : ℕ → KeyState → Bool
is_claimed_by k Empty = false
is_claimed_by k Dead = false
is_claimed_by k (Claimed j) = j == k

-- the key's slot among the first n slots of a table, if it has one there
abbrev pub slot_among : Tables → ℕ → ℕ → ℕ → Option ℕ
slot_among t g k zero = None
slot_among t g k (suc n) = if is_claimed_by k (t.key g n) then Some n else slot_among t g k n

-- the key's value in a table, if it has a slot there
abbrev pub value_in : Plan → Tables → ℕ → ℕ → Option ValueState
value_in p t g k = option_map (t.value g) (slot_among t g k (size_of p g))

-- whether the key has no slot, or a null value
abbrev pub is_blank : Option ValueState → Bool
is_blank None = true
is_blank (Some Null) = true
is_blank (Some _) = false

-- what a key's value in a table shows, where `above` is what the tables above show, and `blank`
-- says that the key has no slot or a null value in the next one
abbrev pub shown_by : Option ValueState → Bool → Option ℕ → Option ℕ
shown_by None blank above = above
shown_by (Some Null) blank above = None
shown_by (Some Tombstone) blank above = None
shown_by (Some (Live n)) blank above = Some n
shown_by (Some PrimedNull) blank above = above
shown_by (Some PrimedTombstone) blank above = above
shown_by (Some (Primed n)) blank above = if blank then Some n else above
shown_by (Some (Finished n)) blank above = above

-- whether the table is there: the first is from the start
abbrev pub is_installed : Tables → ℕ → Bool
is_installed t zero = true
is_installed t (suc g) = t.next g == 1

-- what the tables from g on show of a key, of which there are so many
abbrev pub shown_from : Plan → Tables → ℕ → ℕ → ℕ → Option ℕ
shown_from p t k g zero = None
shown_from p t k g (suc tables) =
    if is_installed t g
    then shown_by (value_in p t g k) (is_blank (value_in p t (suc g) k))
    (shown_from p t k (suc g) tables)
    else None

-- The words stand for the map: at each key they show the map's number. One look at one moment.
abbrev pub Stands : Plan → List ℕ → Numbers → Type 0
Stands p w m =
    (k : ℕ) → k ≤ KEY_MAX → shown_from p (tables_of p w) k 0 (generations_of p) ≡ map.get m k

-- ---- what calls do to the number of keys

-- what a call did to the number of keys
abbrev pub net_of_change : Change → Option ℕ → ℤ
net_of_change (change.Put n) None = pos 1
net_of_change (change.Put n) (Some m) = pos 0
net_of_change (change.Add n) None = pos 1
net_of_change (change.Add n) (Some m) = pos 0
net_of_change change.Remove None = pos 0
net_of_change change.Remove (Some m) = pos 0 -ℤ pos 1

-- what a call with its reply did to the number of keys
abbrev pub net_of_call : Call → Reply → ℤ
net_of_call (call.Get k) r = pos 0
net_of_call (call.Write k want change) r =
    if r.matched then net_of_change change r.before else pos 0

-- how many keys the calls added, less how many they took out
abbrev pub net_of : List (Call × Reply) → ℤ
net_of [] = pos 0
net_of (c ∷ calls) = net_of_call c.0 c.1 +ℤ net_of calls

-- the same of the calls of the first n seats in a log
abbrev pub net_of_seats : List Entry → ℕ → ℤ
net_of_seats log zero = pos 0
net_of_seats log (suc n) = net_of (calls_of n log) +ℤ net_of_seats log n

-- ---- keys

-- other keys have all slots of the last table
abbrev pub IsCrowded : Plan → List Event → ℕ → Type 0
IsCrowded p h k = (i : ℕ) → i < size_of p (generations_of p - 1)
    → IsOther ((tables_at p h).key (generations_of p - 1) i) k

-- whether the event is an exchange of another seat on the key
abbrev pub is_win_of_another : ℕ → ℕ → Event → Bool
is_win_of_another k s (Won s' g i a b c r) = key_of_call c == k && not (s' == s)
is_win_of_another k s _ = false

-- how many exchanges on the key the other seats won after the first n events
abbrev pub passed_over : List Event → ℕ → ℕ → ℕ → ℕ
passed_over h n k s = count_by (is_win_of_another k s) (take (length h - n) h)

-- the first of two places, where there is one
abbrev pub first_place : Option (ℕ × ℕ) → Option (ℕ × ℕ) → Option (ℕ × ℕ)
first_place None later = later
first_place (Some place) later = Some place

-- the key's first place from table g on, of so many tables: the table and the slot
abbrev pub place_from : Plan → Tables → ℕ → ℕ → ℕ → Option (ℕ × ℕ)
place_from p t k g zero = None
place_from p t k g (suc tables) = first_place
    (option_map (λ i. (g, i)) (slot_among t g k (size_of p g))) (place_from p t k (suc g) tables)

-- the key's first place from table g on, after the history
abbrev pub place_of : Plan → List Event → ℕ → ℕ → Option (ℕ × ℕ)
place_of p h g k = place_from p (tables_at p h) k g (generations_of p - g)
