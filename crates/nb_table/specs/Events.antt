-- When a load is an event, or an exchange that is lost: as the read of a call, where what it shows
-- of the call's key decides the call.
use Rattle.std.specs.Prelude.{ℕ, suc, ◌-◌, ◌==◌, ◌&&◌, Bool, not, if◌then◌else◌, List, [], ◌∷◌, Option, Some, None}
use Rattle.nb_core.specs.Calls.{leaves_alone}
use Rattle.nb_core.specs.Log.{reply_at}
use Rattle.nb_core.specs.History.{key_of_call}
use Rattle.nb_core.specs.Plans.{Plan, generations_of, size_of}
use Rattle.nb_core.specs.Tables.{path_slot}
use Rattle.nb_core.specs.declared.calls.Call.{Call}
use Rattle.nb_core.specs.declared.events.Event.{Event}
use Rattle.nb_core.specs.declared.events.Event.TheVariants.{Read}
use Rattle.nb_core.specs.declared.states.KeyState.{KeyState}
use Rattle.nb_core.specs.declared.states.KeyState.TheVariants.{Empty, Dead, Claimed}

-- the event, if this holds
abbrev pub only : Bool → Event → List Event
only holds e = if holds then e ∷ [] else []

-- What a load shows of a key is `Some` of what the map has at it, a number or none; or `None`,
-- where it shows nothing.

-- the call's read, where what was shown of its key is something that the call leaves as it is
abbrev pub read : ℕ → Call → Option (Option ℕ) → List Event
read number call None = []
read number call (Some shown) =
    only (leaves_alone call shown) (Read number call (reply_at call shown))

-- the read of a load's call, if the load has one, by what the load shows of each key
abbrev pub reads : ℕ → Option Call → (ℕ → Option (Option ℕ)) → List Event
reads number None shown = []
reads number (Some call) shown = read number call (shown (key_of_call call))

-- the slot is the last one of the key's path, in the last table
abbrev pub is_last_slot : Plan → (g i k : ℕ) → Bool
is_last_slot p g i k = suc g == generations_of p && path_slot p g k (size_of p g - 1) == i

-- What a key word shows of a key whose path leads to the slot: that the map doesn't have the key,
-- where the slot is empty, or is another key's and the last one of the path in the last table.
abbrev pub shown_by_key : Plan → (g i : ℕ) → KeyState → ℕ → Option (Option ℕ)
shown_by_key p g i Empty k = Some None
shown_by_key p g i Dead k = None
shown_by_key p g i (Claimed j) k = if not (j == k) && is_last_slot p g i k then Some None else None

-- what a next word shows of a key whose whole path is other keys': where there is no next table,
-- that the map doesn't have it
abbrev pub shown_by_next : Bool → Option (Option ℕ)
shown_by_next installed = if installed then None else Some None
