-- The map that is there at present, until it is made anew.
use Rattle.std.specs.FinMap as numbers
use Rattle.std.specs.Prelude.{◌≡◌, ◌≤◌, ◌^◌, true, ℕ, [], length, map}
use Rattle.nb_core.specs.Calls.{overflows}
use Rattle.nb_core.specs.Log.{Numbers}
use Rattle.nb_core.specs.declared.calls.Call.{Call}
use Rattle.nb_core.specs.declared.shapes.TheConstants.{MAX_EXPONENT}
use Rattle.nb_map.specs.Bulk.{put_entry}
use Rattle.nb_map.specs.Crowding.{HasAskedFor}
use Rattle.nb_map.specs.Handles.{HandleOf}
use Rattle.nb_map.specs.OneSeat.{IsOnly, held}
use Rattle.nb_map.specs.declared.faults.PutFault.TheVariants as fault
use Rattle.nb_map.specs.declared.faults.PutFault.{PutFault}
use Rattle.nb_lasting.specs.Lasting.{HasSlots, IsNewKey}

-- the handle has the only seat of its map
pub record IsAlone (handle : HandleOf) : Type 0 where
  pub only : IsOnly handle.map handle.seat
  pub none_else : handle.reserve ≡ []

-- the map as its only seat knows it
abbrev pub content : HandleOf → Numbers
content handle = held handle.seat

-- how many keys it has
abbrev pub keys_in : HandleOf → ℕ
keys_in handle = length (numbers.entries (content handle))

-- The map is new, and has room: it has claimed slots for its own keys alone.
pub record IsFresh (handle : HandleOf) : Type 0 where
  pub asked :
      HasAskedFor handle.map.chain.shape
      (map put_entry (numbers.entries (content handle))) handle.seat.chain
  pub room : HasSlots (keys_in handle) handle.map.chain.shape

-- why the map that is there refuses a write
abbrev pub IsRefusedHere : Call → HandleOf → PutFault → Type 0
IsRefusedHere call before fault.Full =
    IsNewKey call (content before)
    × (IsFresh before → 2 ^ MAX_EXPONENT ≤ keys_in before)
IsRefusedHere call before fault.Contended = ⊥
IsRefusedHere call before fault.ValueRange = overflows call (content before) ≡ true
