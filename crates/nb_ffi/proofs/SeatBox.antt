-- The handle of C that stands for a map's handle, as a box.
use mathlib.Core.Path.{refl}
use Rattle.nb_map.proofs.handle.Handle.TheLaws as laws
use Rattle.nb_map.specs.contracts.handle.Handle as MapHandle
use Rattle.nb_ffi.proofs.HandleBox.{Handle}
use Rattle.nb_ffi.specs.contracts.seat_handle.SeatHandle as SeatHandle

abbrev pub seat : Handle
seat =
    record {
      row = SeatHandle.the_row;
      name = SeatHandle.the_type.name;
      type = MapHandle.the_row;
      laws = laws.the_row_laws;
      make = λ p a v. record { ptr = p; alloc = a; handle = v };
      ptr = λ h. h.ptr;
      alloc = λ h. h.alloc;
      value = λ h. h.handle;
      is_pair = refl;
      is_made = λ h. refl;
      has_value = λ p a v. refl;
      full_owns = λ p a w vs. refl;
      empty_owns = λ a vs. refl;
      parts_own = λ x vs. refl;
      last = λ h. tt;
      leaves_none = λ h f. refl;
      value_lies = λ w b o. refl;
    }
