-- `lend` of the handle of an ended map.
use Rattle.nb_ffi.specs.contracts.ended_handle.EndedHandle.lend.Key.{name}
use Rattle.nb_ffi.proofs.EndedBox.{ended}
use Rattle.nb_ffi.proofs.HandleLend as handle
use Rattle.nb_ffi.proofs.ended_handle.EndedHandle.lend.Statement as stated
use Rattle.nb_ffi.proofs.ended_handle.EndedHandle.lend.Code as code

pub lend_spec : {M : Type 1} → stated.statement M
lend_spec 𝓤 𝓛 𝓜 𝓡 wired =
    handle.lend ended 𝓛 𝓜 𝓡 name (code.unfolded 𝓤 𝓛.H 𝓜 𝓡 wired)
