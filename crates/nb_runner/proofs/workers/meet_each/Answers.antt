use Rattle.std.proofs.Common.{◌≡◌, ◌∙◌, ◌<◌, arith, get_or, length, refl, subst, sym}
use Rattle.std.proofs.lemmas.List.{get_or_default}
use Rattle.nb_map.specs.Maps.{IsMine}
use Rattle.nb_runner.proofs.Meeting.{each-more, met-none, same-at}
use Rattle.nb_runner.proofs.workers.meet_each.Goals as goal

pub loop-other-init : goal.loop-other-init
loop-other-init c = (
  c.requires.own,
  met-none c.args.map.now c.args.seat.now c.requires.own,
  tt,
  refl,
)

pub meet-requires-clause-b_own : goal.meet-requires-clause-b_own
meet-requires-clause-b_own c =
    let workers = c.args.others.now in
    let now = c.loop-other.others in
    let i = c.loop-other.other-index in
    let d = c.other-item.result in
    let below : i < length now = omega (arith, c.loop-other-test.true, c.loop-other.auto.others) in
    subst (λ w. IsMine c.args.map.now w.seat)
    (sym (same-at workers now i d c.loop-other-test.true below c.loop-other.invariant.3))
    (c.requires.others i d c.loop-other-test.true)

pub loop-other-preserved : goal.loop-other-preserved
loop-other-preserved c =
    let m = c.args.map.now in
    let workers = c.args.others.now in
    let now = c.loop-other.others in
    let i = c.loop-other.other-index in
    let d = c.other-item.result in
    let inv = c.loop-other.invariant in
    let worker = get_or now i d in
    let below : i < length now = omega (arith, c.loop-other-test.true, c.loop-other.auto.others) in
    let at : worker ≡ get_or workers i worker =
    same-at workers now i d c.loop-other-test.true below inv.3
    ∙ get_or_default workers i d worker c.loop-other-test.true in
    each-more m workers now i worker c.args.seat.now c.loop-other.seat c.meet.new.a c.meet.new.b
    c.loop-other-test.true below at inv.3 c.meet.ensures.a.own c.meet.ensures.b.own inv.1 inv.2
    (c.meet.ensures.a.logged, c.meet.ensures.a.seen, c.meet.ensures.a.grows, c.meet.ensures.a.count)
    (c.meet.ensures.b.logged, c.meet.ensures.b.seen, c.meet.ensures.b.grows, c.meet.ensures.b.count)
