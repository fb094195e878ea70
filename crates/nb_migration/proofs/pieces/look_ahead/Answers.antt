use Rattle.nb_migration.proofs.Stretches.{keeps-more, one-looked}
use Rattle.nb_migration.proofs.pieces.look_ahead.Goals as goal

pub loop-entry-preserved : goal.loop-entry-preserved
loop-entry-preserved c =
    let sofar = c.loop-entry.invariant in
    record {
      rest = keeps-more sofar.rest c.look_ahead.ensures.rest;
      looked = λ before copied answers looks done.
          one-looked looks c.loop-entry.entry-index sofar.rest.map
          (sofar.looked before copied answers looks done) c.look_ahead.ensures.looked;
    }
