-- `lend` of the handle of C that stands for a map's handle.
use Rattle.nb_ffi.specs.contracts.seat_handle.SeatHandle.lend.Key.{name}
use Rattle.nb_ffi.proofs.SeatBox.{seat}
use Rattle.nb_ffi.proofs.HandleLend as handle
use Rattle.nb_ffi.proofs.seat_handle.SeatHandle.lend.Statement as stated
use Rattle.nb_ffi.proofs.seat_handle.SeatHandle.lend.Code as code

pub lend_spec : {M : Type 1} → stated.statement M
lend_spec 𝓤 𝓛 𝓜 𝓡 wired =
    handle.lend seat 𝓛 𝓜 𝓡 name (code.unfolded 𝓤 𝓛.H 𝓜 𝓡 wired)
