-- `empty` of the handle of C that stands for a map's handle.
use Rattle.nb_ffi.specs.contracts.seat_handle.SeatHandle.empty.Key.{name}
use Rattle.nb_ffi.proofs.SeatBox.{seat}
use Rattle.nb_ffi.proofs.HandleEmpty as handle
use Rattle.nb_ffi.proofs.seat_handle.SeatHandle.empty.Statement as stated
use Rattle.nb_ffi.proofs.seat_handle.SeatHandle.empty.Code as code

pub empty_spec : {M : Type 1} → stated.statement M
empty_spec 𝓤 𝓛 𝓜 𝓡 wired =
    handle.empty seat 𝓛 𝓜 𝓡 name (code.unfolded 𝓤 𝓛.H 𝓜 𝓡 wired)
