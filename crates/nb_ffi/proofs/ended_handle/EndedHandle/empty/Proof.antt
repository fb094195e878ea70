-- `empty` of the handle of an ended map.
use Rattle.nb_ffi.specs.contracts.ended_handle.EndedHandle.empty.Key.{name}
use Rattle.nb_ffi.proofs.EndedBox.{ended}
use Rattle.nb_ffi.proofs.HandleEmpty as handle
use Rattle.nb_ffi.proofs.ended_handle.EndedHandle.empty.Statement as stated
use Rattle.nb_ffi.proofs.ended_handle.EndedHandle.empty.Code as code

pub empty_spec : {M : Type 1} → stated.statement M
empty_spec 𝓤 𝓛 𝓜 𝓡 wired =
    handle.empty ended 𝓛 𝓜 𝓡 name (code.unfolded 𝓤 𝓛.H 𝓜 𝓡 wired)
