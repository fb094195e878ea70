use Rattle.std.proofs.Common.{Option, ℕ, arith, unwrap_or}
use Rattle.nb_ffi.proofs.Writing.{told-more}
use Rattle.nb_ffi.proofs.many.write_found.Goals as goal

pub loop-i-preserved : goal.loop-i-preserved
loop-i-preserved c =
    rw c.told.ensures
    (told-more (λ (number : Option ℕ). unwrap_or number c.args.other) c.args.found.now
    c.args.numbers.now c.loop-i.numbers c.loop-i.i c.index-found-i.result c.index-found-i.result
    c.loop-i-test.true (omega (arith, c.requires.room)) c.loop-i.invariant c.index-found-i.is)
