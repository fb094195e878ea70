use Rattle.std.proofs.Common.{◌≡◌, ◌++◌, drop, take}
use Rattle.nb_ffi.proofs.many.write_keys.Given as goal

abbrev pub invariant-loop-i : goal.invariant-loop-i
invariant-loop-i l = l.group ≡ take l.i l.keys ++ drop l.i l.fn.group
