use Rattle.std.proofs.Common.{◌≡◌, ◌∙◌, ◌<◌, ap, arith, false, length, refl, subst, sym}
use Rattle.std.proofs.lemmas.Bool.Decides.{nat_tests}
use Rattle.std.specs.Bool.{OnFalse}
use Rattle.std.specs.Prelude.{vec_items}
use Rattle.std.proofs.lemmas.List.{nil_from_length}
use Rattle.nb_texts.specs.Memory.{TellsWhetherFits, shape_with_room}
use Rattle.nb_texts.specs.declared.catalog.Catalog.{Catalog}
use Rattle.nb_tally.proofs.ForgottenLemmas.{forgotten-alike, narrow-same, none-over, same-ready, same-told}
use Rattle.nb_tally.specs.Forgotten.{Again, Never}
use Rattle.nb_tally.specs.declared.lines_forgotten.RoughTally.{RoughTally}
use Rattle.nb_tally.proofs.lines_forgotten.forget_for.Goals as goal

pub loop-alloc-init : goal.loop-alloc-init
loop-alloc-init g c = record {
  ready = c.requires.ready;
  told = λ lines tells. tells;
  over = c.requires.over;
  room = omega arith;
  few = omega arith;
  made = λ most narrow. Never (record { texts = refl; counts = refl; missed = refl });
}

pub loop-alloc-preserved : goal.loop-alloc-preserved
loop-alloc-preserved g c =
    let now = c.loop-alloc.invariant in
    let limit = c.args.plan.limit in
    let forgot = c.in_ok-left.ensures in
    let before : RoughTally = c.in_ok-left.left in
    let after : RoughTally = record { tally = c.make_room_within.new.self; missed = before.missed } in
    let made = c.in_ok-make_room_within.ensures in
    let stopped : c.in_ok-make_room_within.field-0 ≡ false = grind (arith, nat_tests, c.if-branch.false) in
    record {
      ready = same-ready before after forgot.ready made.rest made.texts (ap vec_items made.counts);
      told = λ lines tells.
          same-told before after made.texts (ap vec_items made.counts) refl lines
          (forgot.told lines (now.told lines tells));
      over = subst (TellsWhetherFits limit after.tally.catalog c.args.block) stopped made.fits;
      room =
          let same : after.tally.catalog ≡ before.tally.catalog
          = subst (λ fits. OnFalse fits (after.tally.catalog ≡ before.tally.catalog)) stopped made.back in
          omega (arith, now.room, now.ready.rest.most, forgot.room, ap (λ (catalog : Catalog). catalog.room) same);
      few = omega (arith, now.few, forgot.half, ap length made.texts);
      made = λ most narrow.
          Again (now.made most narrow)
          (narrow-same limit most c.args.rough.tally.catalog c.loop-alloc.left.tally.catalog
          now.ready.rest.made (omega (arith, now.room)) narrow)
          now.over
          (forgotten-alike c.loop-alloc.left before after forgot.cut
          (record { texts = made.texts; counts = ap vec_items made.counts; missed = refl }));
    }

pub loop-alloc-smaller : goal.loop-alloc-smaller
loop-alloc-smaller g c =
    let some : 0 < length c.loop-alloc.left.tally.catalog.texts
    = grind (arith, nat_tests, c.is_empty.ensures, c.loop-alloc-test.true) in
    omega (arith, some, c.in_ok-left.ensures.half, ap length c.in_ok-make_room_within.ensures.texts)

pub unreachable-requires : goal.unreachable-requires
unreachable-requires g c =
    let now = c.loop-alloc.invariant in
    let left = c.loop-alloc.left.tally.catalog in
    let rough = c.args.rough.tally.catalog in
    let none : length left.texts ≡ 0 = grind (arith, nat_tests, c.is_empty.ensures, c.loop-alloc-test.false) in
    none-over c.args.plan.limit rough left c.args.block c.requires.alone now.over
    (nil_from_length left.texts none)
    (now.ready.rest.made ∙ ap shape_with_room now.room ∙ sym c.requires.ready.rest.made) now.room

pub returns-then-branch-clause-ready : goal.returns-then-branch-clause-ready
returns-then-branch-clause-ready g c =
    let before : RoughTally = c.in_ok-left.left in
    let after : RoughTally = record { tally = c.make_room_within.new.self; missed = before.missed } in
    let made = c.in_ok-make_room_within.ensures in
    same-ready before after c.in_ok-left.ensures.ready made.rest made.texts (ap vec_items made.counts)

pub returns-then-branch-clause-told : goal.returns-then-branch-clause-told
returns-then-branch-clause-told g c = λ lines tells.
    let before : RoughTally = c.in_ok-left.left in
    let after : RoughTally = record { tally = c.make_room_within.new.self; missed = before.missed } in
    let made = c.in_ok-make_room_within.ensures in
    same-told before after made.texts (ap vec_items made.counts) refl lines
    (c.in_ok-left.ensures.told lines (c.loop-alloc.invariant.told lines tells))

pub returns-then-branch-clause-made : goal.returns-then-branch-clause-made
returns-then-branch-clause-made g c = λ most narrow.
    let now = c.loop-alloc.invariant in
    let before : RoughTally = c.in_ok-left.left in
    let after : RoughTally = record { tally = c.make_room_within.new.self; missed = before.missed } in
    let made = c.in_ok-make_room_within.ensures in
    Again (now.made most narrow)
    (narrow-same c.args.plan.limit most c.args.rough.tally.catalog c.loop-alloc.left.tally.catalog
    now.ready.rest.made (omega (arith, now.room)) narrow)
    now.over
    (forgotten-alike c.loop-alloc.left before after c.in_ok-left.ensures.cut
    (record { texts = made.texts; counts = ap vec_items made.counts; missed = refl }))
