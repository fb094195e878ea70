use Rattle.std.proofs.Common.{◌∙◌, ap, arith, refl, subst, sym}
use Rattle.std.proofs.lemmas.Result.{IfOk-weaker}
use Rattle.nb_texts.proofs.Theorems.{taken-as}
use Rattle.nb_texts.specs.Catalogs.{IsAtRest}
use Rattle.nb_texts.specs.Taking.{HasLeft}
use Rattle.nb_texts.specs.declared.catalog.Catalog.{Catalog}
use Rattle.nb_tally.specs.Counted.{HasCountedBlocks, IsLeftOut, ahead_for}
use Rattle.nb_tally.specs.declared.lines_forgotten.RoughTally.{RoughTally}
use Rattle.nb_tally.proofs.ForgottenLemmas.{narrow-begun, roughly-none}
use Rattle.nb_tally.proofs.lines_counted.count_lines.Goals as goal

pub take_lines-requires-clause-begun : goal.take_lines-requires-clause-begun
take_lines-requires-clause-begun g c = λ _ _.
    let opened = c.in_ok-catalog.ensures in
    let tally = c.new-tally.result in
    let rough : RoughTally = record { tally = tally; missed = record { times = 0; cuts = 0 } } in
    let rest = subst IsAtRest (sym c.new-tally.ensures.catalog) opened.rest in (
      refl,
      refl,
      refl,
      roughly-none c.ahead_of-ahead.result c.args.column c.args.plan.limit c.args.forgets rough rest
          (ap (λ (catalog : Catalog). catalog.texts) c.new-tally.ensures.catalog ∙ opened.empty)
          c.new-tally.ensures.counts refl
          (narrow-begun c.args.plan.limit c.args.plan.room c.first_room.result tally.catalog rest.made
          c.first_room.ensures
          (omega (
            arith,
            ap (λ (catalog : Catalog). catalog.room) c.new-tally.ensures.catalog,
            opened.room,
          ))),
    )

pub returns-clause-taken : goal.returns-clause-taken
returns-clause-taken g c =
    let column = c.args.column in
    let limit = c.args.plan.limit in
    IfOk-weaker c.take_lines.result _ _
    (λ done has.
    taken-as (g.I.Read.remaining c.args.reader.now) done.1 _
    (HasCountedBlocks (ahead_for c.args.forgets limit) column limit c.args.forgets done.0.rough) has
    (λ lines held. subst (λ ahead. HasCountedBlocks ahead column limit c.args.forgets done.0.rough lines)
    c.ahead_of-ahead.ensures.asked held.3))
    c.take_lines.ensures.taken

pub returns-clause-left : goal.returns-clause-left
returns-clause-left g c =
    IfOk-weaker c.take_lines.result _ _
    (λ done left part.
    subst (λ ahead. HasLeft ahead (g.I.Read.remaining c.args.reader.now) done.1.lines
    (IsLeftOut c.args.column c.args.plan.limit c.args.forgets done.0.rough.tally.catalog)) c.ahead_of-ahead.ensures.asked
    (left part))
    c.take_lines.ensures.left
