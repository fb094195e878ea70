-- Calls at a slot that is known to be its key's, in a map of one table: they search for nothing.
use Rattle.std.specs.Prelude.{◌≡◌, ◌<◌, ◌≤◌, ◌+◌, ℕ, [], Option, Some, None, Result}
use Rattle.nb_core.specs.Plans.{size_of}
use Rattle.nb_core.specs.declared.calls.Call.{Call}
use Rattle.nb_core.specs.declared.calls.Reply.{Reply}
use Rattle.nb_core.specs.declared.states.KeyState.TheVariants.{Claimed}
use Rattle.nb_table.specs.Chains.{Grown, seen_by}
use Rattle.nb_map.specs.Logs.{HasLogged}
use Rattle.nb_map.specs.Maps.{IsMine, MapOf, SeatOf}
use Rattle.nb_map.specs.Progress.{Tries}
use Rattle.nb_map.specs.Promises.{HasGot, HasWritten, replied_or_refused}
use Rattle.nb_map.specs.declared.faults.PutFault.{PutFault}

-- The seat has seen that this slot of the first table is the key's. A slot stays its key's.
pub record KeyHasSlot (map : MapOf) (seat : SeatOf) (slot key : ℕ) : Type 0 where
  pub in_table : slot < size_of map.chain.shape 0
  pub is : (seen_by map.chain.shape seat.chain).key 0 slot ≡ Claimed key

-- the seat has seen that the slot is this key's, or has seen no key in it
abbrev pub IsKeyOfSlot : MapOf → SeatOf → (slot : ℕ) → Option ℕ → Type 0
IsKeyOfSlot map seat slot None = (key : ℕ) → KeyHasSlot map seat slot key → ⊥
IsKeyOfSlot map seat slot (Some key) = KeyHasSlot map seat slot key

-- What a step promises that is no call: so many loads, which leave no event.
pub record HasMadeLooks (map : MapOf) (before after : SeatOf) (loads : ℕ) : Type 0 where
  -- it is no call of the log
  pub logged : HasLogged before after []
  -- so many steps on the tables, and none on the counter
  pub grows : Grown map.chain.shape before.chain after.chain [] loads
  pub count : after.count ≡ before.count
  pub own : IsMine map after

-- what a look at a slot promises, which finds this key there, or none
pub record HasFoundKey (map : MapOf) (slot : ℕ) (before after : SeatOf) (found : Option ℕ) :
    Type 0 where
  pub key : IsKeyOfSlot map after slot found
  pub looked : HasMadeLooks map before after 1

-- what a read of the key of a slot promises: it is a get of one step
pub record HasGotAt (map : MapOf) (slot key : ℕ) (before after : SeatOf) (found : Option ℕ) :
    Type 0 where
  pub got : HasGot map key before after found
  pub one_step : after.chain.steps ≤ before.chain.steps + 1
  pub still : KeyHasSlot map after slot key

-- What a write of the key of a slot promises, with so many tries: it is such a write, of a step for
-- each exchange, and two more.
pub record HasWrittenAt (map : MapOf) (slot key : ℕ) (call : Call) (before after : SeatOf)
    (tries : ℕ) (result : Result Reply PutFault) : Type 0 where
  pub written : HasWritten map call before after (Tries tries) (replied_or_refused result)
  pub few_steps : after.chain.steps ≤ before.chain.steps + tries + 2
  pub still : KeyHasSlot map after slot key
