use Rattle.std.proofs.Common.{◌≡◌, ◌≤◌, ◌++◌, length, map, take, drop}
use Rattle.nb_ffi.specs.Entries.{entry_in_c}
use Rattle.nb_ffi.proofs.ended_map.write_entries.Given as goal

abbrev pub invariant-loop-i : goal.invariant-loop-i
invariant-loop-i l =
    (l.i ≤ length l.fn.entries)
    × (l.room ≡ map entry_in_c (take l.i l.fn.entries) ++ drop l.i l.fn.room)
