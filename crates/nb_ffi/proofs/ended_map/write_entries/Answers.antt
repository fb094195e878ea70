use Rattle.std.proofs.Common.{arith, refl}
use Rattle.nb_ffi.proofs.Writing.{all-written, written-more}
use Rattle.nb_ffi.proofs.ended_map.write_entries.Goals as goal

pub loop-i-init : goal.loop-i-init
loop-i-init c = (omega arith, refl)

pub loop-i-preserved : goal.loop-i-preserved
loop-i-preserved c = (
  omega (arith, c.loop-i-test.true),
  rw (c.get.ensures.number, c.get-in-loop-i.ensures.number)
      (written-more c.args.entries.now c.args.room.now c.loop-i.room c.loop-i.i
      c.index-entries-i.result c.index-entries-i.result c.loop-i-test.true c.requires.fits
      c.loop-i.invariant.1 c.index-entries-i.is),
)

pub returns : goal.returns
returns c =
    all-written c.args.entries.now c.args.room.now c.loop-i.room c.loop-i.i c.loop-i.invariant.0
    c.loop-i-test.false c.loop-i.invariant.1
