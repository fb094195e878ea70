-- What the calls of a map without an end do. A contract sees the map as a finite map: its keys with
-- their numbers.
use Rattle.std.specs.FinMap as numbers
use Rattle.std.specs.Prelude.{◌≡◌, ◌<◌, ◌≤◌, ◌-◌, ◌^◌, ◌⊎◌, true, ℕ, Bool, Option, None, length, max, min}
use Rattle.nb_core.specs.Calls.{Fills, overflows}
use Rattle.nb_core.specs.History.{key_of_call}
use Rattle.nb_core.specs.Log.{Numbers, map_after, reply_of}
use Rattle.nb_core.specs.Plans.{Plan, generations_of, plan_for_keys, size_of}
use Rattle.nb_core.specs.declared.calls.Call.{Call}
use Rattle.nb_core.specs.declared.calls.Reply.{Reply}
use Rattle.nb_core.specs.declared.shapes.TheConstants.{MAX_EXPONENT, MOST_KEYS}
use Rattle.nb_lasting.specs.declared.faults.GrowFault.TheVariants as grow_fault
use Rattle.nb_lasting.specs.declared.faults.GrowFault.{GrowFault}
use Rattle.nb_lasting.specs.declared.faults.WriteFault.TheVariants as fault
use Rattle.nb_lasting.specs.declared.faults.WriteFault.{WriteFault}
use Rattle.nb_lasting.specs.declared.shapes.TheConstants.{LEAST}

-- ---- a call that is made

-- The call was made, and replied as a plain map does. It left what it leaves of a plain map.
pub record IsMadeOn (call : Call) (before after : Numbers) (reply : Reply) : Type 0 where
  pub replied : reply ≡ reply_of call before
  pub left : after ≡ map_after call before

-- the same, where it answers what it found at its key
abbrev pub Finds : Call → (before after : Numbers) → Option ℕ → Type 0
Finds call before after found =
    (reply : Reply) × (reply.before ≡ found) × IsMadeOn call before after reply

-- the same, where it answers whether its condition held
abbrev pub Matches : Call → (before after : Numbers) → Bool → Type 0
Matches call before after matched =
    (reply : Reply) × (reply.matched ≡ matched) × IsMadeOn call before after reply

-- ---- a call that is refused

-- it has as many keys as the greatest table has slots
abbrev pub IsGreatest : Numbers → Type 0
IsGreatest content = 2 ^ MAX_EXPONENT ≤ length (numbers.entries content)

-- the call would put a number at a key that isn't there
abbrev pub IsNewKey : Call → Numbers → Type 0
IsNewKey call content = Fills call × (numbers.get content (key_of_call call) ≡ None)

-- Why a write may be refused. Only a new key takes room. Then the map is full where it is as great
-- as a map can be; and memory may be refused. An add is refused where its sum is past the range.
abbrev pub IsRefusedFor : Call → Numbers → WriteFault → Type 0
IsRefusedFor call content fault.Full = IsNewKey call content × IsGreatest content
IsRefusedFor call content fault.OutOfMemory = IsNewKey call content
IsRefusedFor call content fault.ValueRange = overflows call content ≡ true

-- ---- room

-- how many slots the last table has
abbrev pub last_size : Plan → ℕ
last_size p = size_of p (generations_of p - 1)

-- the last table has more slots than this, or is the greatest one
abbrev pub HasSlots : ℕ → Plan → Type 0
HasSlots keys p = (keys < last_size p) ⊎ (2 ^ MAX_EXPONENT ≤ last_size p)

-- the shape that a map for so many keys is made of, or the greatest one, with so many seats
abbrev pub shape_made_for : (keys seats : ℕ) → Plan
shape_made_for keys seats = plan_for_keys (min (max keys LEAST) MOST_KEYS) seats

-- ---- refusals of two kinds

-- the refusal of room, as one of a write
abbrev pub as_write_fault : GrowFault → WriteFault
as_write_fault grow_fault.Full = fault.Full
as_write_fault grow_fault.OutOfMemory = fault.OutOfMemory
