-- How a map is closed by its handle.
use Rattle.std.specs.Prelude.{◌≡◌, Some}
use Rattle.nb_map.specs.Ending.{EndedOf, EndedWith, HasTablesLeft}
use Rattle.nb_map.specs.Handles.{HandleOf, IsWhole, seats_of}
use Rattle.nb_ffi.specs.declared.ended_map.EndedMap.{EndedMap}
use Rattle.nb_ffi.specs.declared.life.CloseFault.{CloseFault}
use Rattle.nb_ffi.specs.declared.life.CloseFault.TheVariants as fault

-- this is left of the map of a handle, which ended with all seats of the handle
pub record IsEndWith (handle : HandleOf) (ended : EndedOf) : Type 0 where
  pub with_all : EndedWith (seats_of handle) ended
  pub tables : HasTablesLeft handle.map.chain.shape (seats_of handle) ended
  pub whole : IsWhole handle

-- the same, in a place for it
abbrev pub IsEndOf : HandleOf → EndedMap → Type 0
IsEndOf handle left = (ended : EndedOf) × (left.ended ≡ Some ended) × IsEndWith handle ended

-- Where closing a handle is refused, it comes back: for want of seats, or else of memory. A map is
-- given up only by a handle that has all seats.
abbrev pub IsHandedBack : HandleOf → CloseFault → Type 0
IsHandedBack handle (fault.OutOfMemory back) = (back.value ≡ handle) × IsWhole handle
IsHandedBack handle (fault.NotAllSeats back) = (back.value ≡ handle) × (IsWhole handle → ⊥)
IsHandedBack handle fault.Lost = IsWhole handle
