-- `into_parts` of the handle of an ended map.
use Rattle.nb_ffi.specs.contracts.ended_handle.EndedHandle.into_parts.Key.{name}
use Rattle.nb_ffi.proofs.EndedBox.{ended}
use Rattle.nb_ffi.proofs.HandleMove as handle
use Rattle.nb_ffi.proofs.ended_handle.EndedHandle.into_parts.Statement as stated
use Rattle.nb_ffi.proofs.ended_handle.EndedHandle.into_parts.Code as code

pub into_parts_spec : {M : Type 1} → stated.statement M
into_parts_spec 𝓤 𝓛 𝓜 𝓡 wired =
    handle.into_parts ended 𝓛 𝓜 𝓡 name (code.unfolded 𝓤 𝓛.H 𝓜 𝓡 wired)
