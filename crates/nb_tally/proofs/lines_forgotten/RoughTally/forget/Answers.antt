use Rattle.std.proofs.Common.{ap, arith, subst, sym}
use Rattle.nb_texts.proofs.Theorems.{within-above, within-middle}
use Rattle.nb_texts.specs.Forgetting.{IsTallyWithin, lines_above}
use Rattle.nb_tally.specs.declared.lines_forgotten.Missed.{Missed}
use Rattle.nb_tally.proofs.lines_forgotten.RoughTally.forget.Goals as goal

pub returns-clause-ready : goal.returns-clause-ready
returns-clause-ready g c =
    let ready = c.requires.ready in
    let left = c.in_ok-tally.ensures in
    let cut = c.in_ok-tally.field-0.cut in
    record {
      rest = left.rest;
      lines = left.lines;
      tally = (lines_above cut ready.tally.0, left.tally ready.tally.0 ready.tally.1);
    }

pub returns-clause-told : goal.returns-clause-told
returns-clause-told g c = λ lines tells.
    let before = c.args.self.tally in
    let forgotten = c.in_ok-tally.field-0 in
    let after = forgotten.tally in
    subst (λ missed. IsTallyWithin missed lines after.catalog.texts after.counts.items)
    (sym (ap (λ (missed : Missed). missed.times) c.in_ok-missed.ensures.more))
    (within-above c.args.self.missed.times forgotten.cut lines before.catalog.texts after.catalog.texts
    before.counts.items after.counts.items c.in_ok-tally.ensures.cut c.in_ok-tally.ensures.tally tells)

pub returns-clause-cut : goal.returns-clause-cut
returns-clause-cut g c = record {
  cut = c.in_ok-tally.field-0.cut;
  middle = c.in_ok-tally.ensures.cut;
  tally = c.in_ok-tally.ensures.tally;
  missed = c.in_ok-missed.ensures.more;
}

pub returns-in_err-missed-clause-often : goal.returns-in_err-missed-clause-often
returns-in_err-missed-clause-often g c = λ is lines tells.
    let before = c.args.self.tally in
    let cut = c.in_ok-tally.field-0.cut in
    omega (
      arith,
      c.in_err-missed.ensures.range,
      within-middle c.args.self.missed.times cut lines before.catalog.texts before.counts.items
          c.in_ok-tally.ensures.cut tells,
    )
