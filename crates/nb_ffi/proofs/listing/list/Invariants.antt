use Rattle.nb_ffi.proofs.Listed.{HasCome}
use Rattle.nb_ffi.proofs.listing.list.Given as goal

abbrev pub invariant-loop-i : goal.invariant-loop-i
invariant-loop-i l = HasCome l.end l.fn.handle l.fn.at l.fn.room l.handle l.at l.room l.i
