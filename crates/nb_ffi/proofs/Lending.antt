-- A handle that has lent what it stands for.
use Rattle.std.proofs.Common.{◌≡◌, Some, ap, sym}
use Rattle.nb_ffi.specs.Lending.{with_left}
use Rattle.nb_ffi.specs.declared.ended_handle.EndedHandle.{EndedHandle}
use Rattle.nb_ffi.specs.declared.ended_map.EndedMap.{EndedMap}

-- where that hasn't changed, the handle is as it was
pub unchanged : (s : EndedHandle) (left : EndedMap) → s.left ≡ Some left → with_left s left ≡ s
unchanged s left is = ap (λ at. record { ptr = s.ptr; alloc = s.alloc; left = at }) (sym is)
