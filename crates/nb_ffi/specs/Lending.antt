-- What a handle lends.
use base.Fml.{Fml}
use denote.Follow.{follows}
use denote.Ref.{MutBor}
use Rattle.std.specs.Prelude.{Some}
use Rattle.nb_map.specs.Handles.{HandleOf}
use Rattle.nb_ffi.specs.declared.ended_handle.EndedHandle.{EndedHandle}
use Rattle.nb_ffi.specs.declared.ended_map.EndedMap.{EndedMap}
use Rattle.nb_ffi.specs.declared.seat_handle.SeatHandle.{SeatHandle}
use Rattle.nb_map.specs.contracts.handle.Handle as Handle
use Rattle.nb_ffi.specs.contracts.ended_handle.EndedHandle as Ended
use Rattle.nb_ffi.specs.contracts.ended_map.EndedMap as Left
use Rattle.nb_ffi.specs.contracts.seat_handle.SeatHandle as Seat

-- the handle, with this in the place of what it stands for
abbrev pub with_handle : SeatHandle → HandleOf → SeatHandle
with_handle seat handle = record { ptr = seat.ptr; alloc = seat.alloc; handle = Some handle }

abbrev pub with_left : EndedHandle → EndedMap → EndedHandle
with_left handle left = record { ptr = handle.ptr; alloc = handle.alloc; left = Some left }

-- once the loan ends, the handle stands for the last value that was written through it
abbrev pub handle_follows : MutBor SeatHandle → MutBor HandleOf → Fml
handle_follows seat loan =
    follows Seat.the_row Handle.the_row seat.ghost_name loan.ghost_name (with_handle seat.now)

abbrev pub left_follows : MutBor EndedHandle → MutBor EndedMap → Fml
left_follows handle loan =
    follows Ended.the_row Left.the_row handle.ghost_name loan.ghost_name (with_left handle.now)
