use Rattle.std.proofs.Common.{◌≡◌, ◌++◌, ℕ, Err, List, arith, length-append, refl, rules, subst, sym}
use Rattle.std.proofs.lemmas.Grind.{common_steps}
use Rattle.nb_lines.specs.declared.faults.ProgramFault.TheVariants as fault
use Rattle.nb_texts.proofs.Theorems.{lines-with, often-many, within-entered}
use Rattle.nb_texts.specs.Forgetting.{AreLines}
use Rattle.nb_texts.specs.Lines.{lines_in}
use Rattle.nb_texts.specs.Tallies.{ComesTooOften, IsTally}
use Rattle.nb_tally.proofs.lines_forgotten.RoughTally.enter.Goals as goal

pub returns-clause-ready : goal.returns-clause-ready
returns-clause-ready g c =
    let ready = c.requires.ready in
    let block = c.args.block.now in
    let entered = c.in_ok-enter.ensures in
    record {
      rest = entered.rest;
      lines =
          subst AreLines (sym entered.texts)
          (lines-with c.args.self.now.tally.catalog.texts block ready.lines);
      tally = (ready.tally.0 ++ lines_in block, entered.tally ready.tally.0 ready.tally.1);
    }

pub returns-clause-told : goal.returns-clause-told
returns-clause-told g c = λ lines tells.
    let before = c.args.self.now.tally in
    let after = c.enter.new.self in
    within-entered c.args.self.now.missed.times lines (lines_in c.args.block.now) before.catalog.texts
    after.catalog.texts before.counts.items after.counts.items c.in_ok-enter.ensures.tally tells

pub returns-clause-counted : goal.returns-clause-counted
returns-clause-counted g c = record { tally = c.in_ok-enter.ensures.tally; missed = refl }

pub returns-in_err-enter-clause-often : goal.returns-in_err-enter-clause-often
returns-in_err-enter-clause-often g c =
    let before = c.args.self.now.tally in
    let block = lines_in c.args.block.now in
    let told : c.from_residual.result ≡ Err fault.TooOften
    → (lines : List (List ℕ)) → IsTally lines before.catalog.texts before.counts.items
    → ComesTooOften lines block = first_of (search rules, grind (arith, common_steps)) in
    λ is lines tells.
    omega (
      arith,
      often-many tells.counted block (told is tells.counted tells.tally),
      length-append tells.counted block,
      length-append lines block,
      tells.many,
    )
