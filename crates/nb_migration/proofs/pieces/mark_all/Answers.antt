use Rattle.std.proofs.Common.{◌∙◌, refl, sym}
use Rattle.nb_migration.proofs.Stretches.{keeps-more, one-marked, stopped-there}
use Rattle.nb_migration.specs.Pieces.{Unmarked}
use Rattle.nb_migration.specs.declared.copying.Copied.TheVariants.{Came}
use Rattle.nb_migration.proofs.pieces.mark_all.Goals as goal

pub loop-i-init : goal.loop-i-init
loop-i-init c = record { rest = record { map = refl; reserve = refl }; marked = Unmarked }

pub returns-then-is_err-clause-marked : goal.returns-then-is_err-clause-marked
returns-then-is_err-clause-marked c =
    let sofar = c.loop-i.invariant in
    stopped-there c.args.entries.now c.args.answers.now c.loop-i.i c.index-entries-i.result Came
    c.mark_entry.result sofar.marked c.loop-i-test.true c.requires.answers c.index-entries-i.is
    sofar.rest.map c.mark_entry.ensures.marked
    (sym c.is_err.ensures.value ∙ c.if-is_err.true)

pub loop-i-preserved : goal.loop-i-preserved
loop-i-preserved c =
    let sofar = c.loop-i.invariant in
    record {
      rest = keeps-more sofar.rest c.mark_entry.ensures.rest;
      marked = one-marked c.args.entries.now c.args.answers.now c.loop-i.i c.index-entries-i.result
          Came c.mark_entry.result sofar.marked c.loop-i-test.true c.requires.answers
          c.index-entries-i.is sofar.rest.map c.mark_entry.ensures.marked
          (sym c.is_err.ensures.value ∙ c.if-is_err.false);
    }
