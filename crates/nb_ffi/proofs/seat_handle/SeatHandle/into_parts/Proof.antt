-- `into_parts` of the handle of C that stands for a map's handle.
use Rattle.nb_ffi.specs.contracts.seat_handle.SeatHandle.into_parts.Key.{name}
use Rattle.nb_ffi.proofs.SeatBox.{seat}
use Rattle.nb_ffi.proofs.HandleMove as handle
use Rattle.nb_ffi.proofs.seat_handle.SeatHandle.into_parts.Statement as stated
use Rattle.nb_ffi.proofs.seat_handle.SeatHandle.into_parts.Code as code

pub into_parts_spec : {M : Type 1} → stated.statement M
into_parts_spec 𝓤 𝓛 𝓜 𝓡 wired =
    handle.into_parts seat 𝓛 𝓜 𝓡 name (code.unfolded 𝓤 𝓛.H 𝓜 𝓡 wired)
