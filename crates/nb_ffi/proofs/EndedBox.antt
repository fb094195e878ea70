-- The handle of an ended map as a box.
use mathlib.Core.Path.{refl}
use Rattle.nb_ffi.proofs.HandleBox.{Handle}
use Rattle.nb_ffi.proofs.ended_map.EndedMap.TheLaws as left
use Rattle.nb_ffi.specs.contracts.ended_handle.EndedHandle as EndedHandle
use Rattle.nb_ffi.specs.contracts.ended_map.EndedMap as EndedMap

abbrev pub ended : Handle
ended =
    record {
      row = EndedHandle.the_row;
      name = EndedHandle.the_type.name;
      type = EndedMap.the_row;
      laws = left.the_row_laws;
      make = λ p a v. record { ptr = p; alloc = a; left = v };
      ptr = λ h. h.ptr;
      alloc = λ h. h.alloc;
      value = λ h. h.left;
      is_pair = refl;
      is_made = λ h. refl;
      has_value = λ p a v. refl;
      full_owns = λ p a w vs. refl;
      empty_owns = λ a vs. refl;
      parts_own = λ x vs. refl;
      last = λ h. tt;
      leaves_none = λ h f. refl;
      value_lies = λ w b o. refl;
    }
