use mir.Raw.{raw}
use base.Shift.{Keyless}
use denote.Memory.{lone}
use denote.Struct.Struct.{exits_of}
use denote.Struct.Owning.{shape, fields, to}
use denote.Param.Send.{IsSend, AllSend, owning_send, struct_send, sendable}
use denote.RawPtr.{Ptr}
use Rattle.std.specs.Prelude.{Option, Some, None}
use Rattle.std.specs.Global.{Global}
use Rattle.std.proofs.Crossing as heap
use Rattle.std_alloc.proofs.SendSync.{quiet, lies}
use Rattle.std_heap.proofs.Global.TheSendSync as handle
use Rattle.nb_ffi.proofs.Crossing.{handle_send}
use Rattle.nb_ffi.specs.Owning.{handle_owns}
use Rattle.nb_map.specs.contracts.handle.Handle as Handle
use Rattle.nb_ffi.specs.contracts.seat_handle.SeatHandle.{the_row, the_type}

handle_keyless : (alloc : Global) (ptr : Ptr) (it : Option Handle.the_row.Denot) → Keyless (handle_owns Handle.the_row alloc ptr it)
handle_keyless alloc ptr None = tt
handle_keyless alloc ptr (Some it) = (lies Handle.the_row handle_send ptr it, heap.frees.frees alloc (raw (lone Handle.the_row.mir)) ptr)

pub send : IsSend the_row
send =
    let all : AllSend (fields the_type) = (search sendable, (handle.the_field_send, tt)) in
    owning_send the_type all (λ d. handle_keyless d.alloc d.ptr d.handle)
    (λ k. quiet (to the_type) (exits_of k (fields the_type)) ((struct_send (shape the_type) all).leaving k))
