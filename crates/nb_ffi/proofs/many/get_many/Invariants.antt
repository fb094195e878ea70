use Rattle.std.proofs.Common.{◌-◌, length}
use Rattle.nb_ffi.proofs.Batched.{HasRead}
use Rattle.nb_ffi.proofs.many.get_many.Given as goal

abbrev pub invariant-loop-done : goal.invariant-loop-done
invariant-loop-done l =
    HasRead l.keys l.other l.fn.handle l.fn.numbers l.handle l.numbers l.done

abbrev pub decreases-loop-done : goal.decreases-loop-done
decreases-loop-done l = length l.keys - l.done
