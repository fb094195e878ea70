-- A map is made anew: what its handle knows then, and what a refused renewal leaves.
use Rattle.std.specs.Prelude.{◌≡◌, ◌⊎◌}
use Rattle.nb_core.specs.Plans.{Plan}
use Rattle.nb_map.specs.Ending.{EndedOf, EndedWith, map_left}
use Rattle.nb_map.specs.Entries.{HaveOnlyRead}
use Rattle.nb_map.specs.Handles.{HandleOf, IsSameMap, seats_of}
use Rattle.nb_map.specs.Opening.{BeginsWith, IsTooSmallFor}
use Rattle.nb_map.specs.declared.faults.OpenFault.TheVariants as open_fault
use Rattle.nb_map.specs.declared.faults.OpenFault.{OpenFault}
use Rattle.nb_map.specs.declared.faults.RenewFault.TheVariants as fault
use Rattle.nb_map.specs.declared.faults.RenewFault.{RenewFault}
use Rattle.nb_map.specs.declared.faults.SettleFault.TheVariants as settle_fault
use Rattle.nb_map.specs.declared.faults.SettleFault.{SettleFault}

-- ---- a map made anew

-- The old map ends with this handle: there is one log of all its calls, as if it had been closed.
-- The new map, of this shape, begins as this log leaves the old one.
pub record HasRenewed (p : Plan) (before after : HandleOf) : Type 0 where
  pub ended : EndedOf
  pub left : EndedWith (seats_of before) ended
  pub begun : BeginsWith p (map_left ended) after

-- The map that the handle's calls leave has more keys than the last table of the shape has slots.
pub record HasTooMany (p : Plan) (before : HandleOf) : Type 0 where
  pub ended : EndedOf
  pub left : EndedWith (seats_of before) ended
  pub small : IsTooSmallFor p (map_left ended)

-- ---- a renewal that is refused

-- The handle is as it was; or it is of its map still, and each of its seats has made at most the
-- reads of a walk.
abbrev pub IsKept : (before after : HandleOf) → Type 0
IsKept before after =
    (after ≡ before)
    ⊎ IsSameMap before after × HaveOnlyRead before.map (seats_of before) (seats_of after)

-- the refusal to settle seats, or to open a map with entries, as one of a renewal
abbrev pub unsettled : SettleFault → RenewFault
unsettled settle_fault.NotAll = fault.NotAll
unsettled settle_fault.OutOfMemory = fault.OutOfMemory

abbrev pub unopened : OpenFault → RenewFault
unopened open_fault.Full = fault.Full
unopened open_fault.OutOfMemory = fault.OutOfMemory
