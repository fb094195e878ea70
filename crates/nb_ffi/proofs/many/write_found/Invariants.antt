use Rattle.std.proofs.Common.{◌≡◌, ◌++◌, drop, take}
use Rattle.nb_ffi.specs.Many.{told_of}
use Rattle.nb_ffi.proofs.many.write_found.Given as goal

abbrev pub invariant-loop-i : goal.invariant-loop-i
invariant-loop-i l = l.numbers ≡ told_of l.other (take l.i l.found) ++ drop l.i l.fn.numbers
