use Rattle.nb_ffi.proofs.Left.{IsLeft}
use Rattle.nb_ffi.proofs.stretch.write_left.Given as goal

abbrev pub invariant-loop-i : goal.invariant-loop-i
invariant-loop-i l = IsLeft l.entries l.answers l.fn.left l.i l.left l.count
