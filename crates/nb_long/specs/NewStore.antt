-- A typed map is made anew with a new store: what its handle knows then.
use Rattle.std.specs.FinMap as numbers
use Rattle.std.specs.List.{range_with_len}
use Rattle.std.specs.Prelude.{◌≡◌, ℕ, All, length, map}
use Rattle.boxcar.specs.Table.{Shelves, Shows}
use Rattle.nb_core.specs.Plans.{Plan}
use Rattle.nb_map.specs.Ending.{EndedOf, EndedWith, map_left}
use Rattle.nb_map.specs.Entries.{AreEntriesOf}
use Rattle.nb_map.specs.Maps.{IsMadeFor}
use Rattle.nb_map.specs.Opening.{HaveBegunWith, map_of_entries}
use Rattle.nb_map.specs.declared.faults.OpenFault.TheVariants as open_fault
use Rattle.nb_map.specs.declared.faults.OpenFault.{OpenFault}
use Rattle.nb_map.specs.declared.faults.SettleFault.TheVariants as settle_fault
use Rattle.nb_map.specs.declared.faults.SettleFault.{SettleFault}
use Rattle.nb_long.specs.Handles.{HandleOf, seats_of}
use Rattle.nb_long.specs.declared.new_store.Carried.{Carried}
use Rattle.nb_long.specs.declared.new_store.RenewStoreFault.TheVariants as fault
use Rattle.nb_long.specs.declared.new_store.RenewStoreFault.{RenewStoreFault}
use Rattle.nb_long.specs.declared.new_store.Renewed.{Renewed}

-- ---- a value that is carried over

-- the key, with the number of its value in the old map
abbrev pub old_entry : {V : Type 0} → Carried V → ℕ × ℕ
old_entry carried = (carried.key, carried.old.index)

-- and in the new one
abbrev pub new_entry : {V : Type 0} → Carried V → ℕ × ℕ
new_entry carried = (carried.key, carried.new.index)

-- One token is of the old store, the other of the new one, and its value is a clone of the old
-- one's, by what `V`'s `clone` promises.
pub record IsCarried {V : Type 0} (IsClone : V → V → Type 0) (before after : Shelves)
    (carried : Carried V) : Type 0 where
  pub old : Shows before carried.old
  pub new : Shows after carried.new
  pub clone : IsClone carried.old.value carried.new.value

-- ---- a typed map made anew

-- The old map of numbers ends with this handle: there is one log of all its calls, as if it had been
-- closed. What is carried over are the values of the map that this log leaves, of each key one. The
-- new map of numbers, of this shape, begins with the same keys, at their values' new numbers.
pub record HasRenewedStore {V : Type 0} (IsClone : V → V → Type 0) (p : Plan)
    (before after : HandleOf) (renewed : Renewed V) : Type 0 where
  pub ended : EndedOf
  pub left : EndedWith (seats_of before) ended
  pub all : AreEntriesOf (map_left ended) (map old_entry renewed.carried.items)
  pub carried :
      All (IsCarried IsClone before.map.store after.map.store) renewed.carried.items
  -- the new numbers are 0, 1 and so on, as many as the map has keys
  pub numbered :
      map (λ carried. carried.new.index) renewed.carried.items
      ≡ range_with_len 0 (length (numbers.entries (map_left ended)))
  pub made : IsMadeFor after.map.map p
  pub begun :
      HaveBegunWith after.map.map (map_of_entries (map new_entry renewed.carried.items))
      (seats_of after)
  -- the old store is handed out
  pub store : renewed.store ≡ before.map.store

-- ---- refusals

-- the refusal to list the old entries, or to open a map with the new ones, as one of a renewal
abbrev pub unlisted : SettleFault → RenewStoreFault
unlisted settle_fault.NotAll = fault.NotAll
unlisted settle_fault.OutOfMemory = fault.OutOfMemory

abbrev pub unopened : OpenFault → RenewStoreFault
unopened open_fault.Full = fault.Full
unopened open_fault.OutOfMemory = fault.OutOfMemory
