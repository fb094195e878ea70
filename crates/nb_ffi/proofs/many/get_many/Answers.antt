use Rattle.std.proofs.Common.{arith}
use Rattle.nb_ffi.proofs.Batched.{read-all, read-more, read-none}
use Rattle.nb_ffi.proofs.many.get_many.Goals as goal

pub loop-done-init : goal.loop-done-init
loop-done-init c =
    read-none c.args.keys.now c.args.other c.args.handle.now c.args.numbers.now c.known.ensures.own
    c.requires.room

pub loop-done-preserved : goal.loop-done-preserved
loop-done-preserved c =
    let (found, written, long, got) = c.get_group.ensures in
    read-more c.min.result found c.loop-done.invariant
    (omega (arith, c.min.ensures, c.loop-done-test.true)) written long got

pub returns : goal.returns
returns c = read-all c.loop-done.invariant c.loop-done-test.false
