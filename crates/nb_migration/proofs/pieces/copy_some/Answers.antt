use Rattle.std.proofs.Common.{◌∙◌, arith, length-set}
use Rattle.nb_migration.proofs.Stretches.{keeps-more, one-copied}
use Rattle.nb_migration.proofs.pieces.copy_some.Goals as goal

pub loop-i-preserved : goal.loop-i-preserved
loop-i-preserved c =
    let sofar = c.loop-i.invariant in
    record {
      rest = keeps-more sofar.rest c.copy.ensures.rest;
      room = length-set c.loop-i.answers c.loop-i.i c.copy.result ∙ sofar.room;
      copied = λ before looks done.
          one-copied c.args.entries.now c.loop-i.answers c.loop-i.i c.index-entries-i.result
          c.copy.result sofar.rest.map (sofar.copied before looks done)
          (omega (arith, c.loop-i-test.true, c.requires.within)) sofar.room c.index-entries-i.is
          c.copy.ensures.copied;
    }
