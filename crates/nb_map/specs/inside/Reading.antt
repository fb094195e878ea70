-- What a probe of a key's path comes to in a table, and what a glance at a slot of the path shows of
-- the key.
use Rattle.std.specs.Prelude.{ℕ, List, [], Option, if◌then◌else◌, suc, ◌≡◌, ◌≤◌, ◌<◌, ◌==◌, None}
use Rattle.nb_core.specs.Calls.{leaves_alone}
use Rattle.nb_core.specs.Plans.{Plan, size_of, generations_of}
use Rattle.nb_core.specs.Tables.{IsInstalled, Tables, AreOthers, path_slot}
use Rattle.nb_core.specs.declared.calls.Call.{Call}
use Rattle.nb_core.specs.declared.calls.Reply.{Reply}
use Rattle.nb_core.specs.declared.states.KeyState.TheVariants.{Dead, Empty}
use Rattle.nb_map.specs.Logs.{as_replied}
use Rattle.nb_map.specs.Progress.{IsAtHome}
use Rattle.nb_map.specs.declared.steps.get.Glance.TheVariants as glance
use Rattle.nb_map.specs.declared.steps.get.Glance.{Glance}
use Rattle.nb_map.specs.declared.steps.search.PathEnd.TheVariants as ends
use Rattle.nb_map.specs.declared.steps.search.PathEnd.{PathEnd}
use Rattle.nb_map.specs.inside.Climbing.{IsSlotOf}

-- the call with its reply, where its key has this number, or none, if it leaves that as it is: so a
-- look at the number is the call's read
abbrev pub read_of : Call → Option ℕ → List (Call × Reply)
read_of call number = if leaves_alone call number then as_replied call number else []

-- ---- a probe of the key's path

-- the key's path in this table is closed, behind slots of other keys
abbrev pub IsClosedTo : Plan → Tables → (g k : ℕ) → Type 0
IsClosedTo p t g k =
    (d : ℕ) × (d < size_of p g) × AreOthers p t g k d × (t.key g (path_slot p g k d) ≡ Dead)

-- the tables show that a probe of the key's path in this table ends here
abbrev pub EndsAt : Plan → Tables → (g k : ℕ) → PathEnd → Type 0
EndsAt p t g k (ends.Slot i) = IsSlotOf p t g i k
EndsAt p t g k (ends.Empty d) =
    (d < size_of p g) × AreOthers p t g k d × (t.key g (path_slot p g k d) ≡ Empty)
EndsAt p t g k ends.Closed = IsClosedTo p t g k × IsInstalled t (suc g)
EndsAt p t g k ends.Whole = AreOthers p t g k (size_of p g)

-- the read that the probe was, for a call that leaves an absent key alone: at an empty slot, and at
-- the end of the last table
abbrev pub read_at : Plan → ℕ → Call → PathEnd → List (Call × Reply)
read_at p g call (ends.Slot i) = []
read_at p g call (ends.Empty d) = read_of call None
read_at p g call ends.Closed = []
read_at p g call ends.Whole = if suc g == generations_of p then read_of call None else []

-- ---- a glance at a slot of the key's path

-- where a glance at this distance shows nothing, the key isn't at home, and the search goes on from
-- there or from a later slot, behind slots of other keys
abbrev pub IsGlance : Plan → Tables → (g k at : ℕ) → Glance → Type 0
IsGlance p t g k at (glance.Shows number) = Unit {0}
IsGlance p t g k at (glance.From d) =
    (at ≤ d) × (d < size_of p g) × AreOthers p t g k d × (IsAtHome p t g k → ⊥)

-- the read that the glance was, for a call that leaves alone what it shows
abbrev pub glanced_by : Call → Glance → List (Call × Reply)
glanced_by call (glance.Shows number) = as_replied call number
glanced_by call (glance.From d) = []
