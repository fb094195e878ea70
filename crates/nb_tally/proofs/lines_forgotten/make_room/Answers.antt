use Rattle.std.proofs.Common.{◌≡◌, ap, arith, refl, subst}
use Rattle.std.specs.Bool.{OnFalse}
use Rattle.std.specs.Prelude.{vec_items}
use Rattle.nb_texts.specs.declared.catalog.Catalog.{Catalog}
use Rattle.nb_tally.proofs.ForgottenLemmas.{made-from, narrow-same, same-ready, same-told}
use Rattle.nb_tally.specs.Forgotten.{IsAlike, Never}
use Rattle.nb_tally.specs.declared.lines_forgotten.RoughTally.{RoughTally}
use Rattle.nb_tally.proofs.lines_forgotten.make_room.Goals as goal

pub returns-then-branch-clause-made : goal.returns-then-branch-clause-made
returns-then-branch-clause-made g c = λ most narrow.
    let made = c.in_ok-make_room_within.ensures in
    Never (record { texts = made.texts; counts = ap vec_items made.counts; missed = refl })

pub returns-then-not-forgets-clause-made : goal.returns-then-not-forgets-clause-made
returns-then-not-forgets-clause-made g c = λ most narrow.
    let made = c.in_ok-make_room_within.ensures in
    Never (record { texts = made.texts; counts = ap vec_items made.counts; missed = refl })

pub returns-then-not-forgets-clause-ready : goal.returns-then-not-forgets-clause-ready
returns-then-not-forgets-clause-ready g c =
    let before : RoughTally = c.args.rough in
    let after : RoughTally = record { tally = c.make_room_within.new.self; missed = before.missed } in
    let made = c.in_ok-make_room_within.ensures in
    same-ready before after c.requires.ready made.rest made.texts (ap vec_items made.counts)

pub returns-clause-told : goal.returns-clause-told
returns-clause-told g c = λ lines tells.
    let before : RoughTally = c.args.rough in
    let after : RoughTally = record { tally = c.make_room_within.new.self; missed = before.missed } in
    let made = c.in_ok-make_room_within.ensures in
    c.in_ok-made.ensures.told lines
    (same-told before after made.texts (ap vec_items made.counts) refl lines tells)

pub returns-clause-made : goal.returns-clause-made
returns-clause-made g c = λ most narrow.
    let before : RoughTally = c.args.rough in
    let after : RoughTally = record { tally = c.make_room_within.new.self; missed = before.missed } in
    let made = c.in_ok-make_room_within.ensures in
    let same : IsAlike before after
    = record { texts = made.texts; counts = ap vec_items made.counts; missed = refl } in
    let back : after.tally.catalog ≡ before.tally.catalog
    = subst (λ fits. OnFalse fits (after.tally.catalog ≡ before.tally.catalog)) c.if-branch.false made.back in
    made-from same
    (c.in_ok-made.ensures.made most
    (narrow-same c.args.plan.limit most before.tally.catalog after.tally.catalog made.rest.made
    (omega (arith, ap (λ (catalog : Catalog). catalog.room) back)) narrow))
