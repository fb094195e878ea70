use Rattle.std.proofs.Common.{◌≡◌, ◌∙◌, ◌+◌, List, length, refl, subst, sym, arith}
use Rattle.std.specs.Prelude.{◌-◌}
use Rattle.nb_core.specs.Log.{Entry}
use Rattle.nb_lasting.specs.Renewal.{CanComeHome}
use Rattle.nb_lasting.proofs.Counted.{home-all}
use Rattle.nb_lasting.proofs.Homes.{none-gone, one-gone}
use Rattle.nb_lasting.proofs.renewing.all_home.Goals as goal

pub come_home-requires-clause-holds : goal.come_home-requires-clause-holds
come_home-requires-clause-holds c =
    let n : ((c.len-count.result - 1) - c.loop-done.done) + 1 ≡ length c.loop-done.handles.items =
    omega (arith, c.len-count.ensures, c.loop-done.invariant.count, c.loop-done-test.true) in (
      c.requires.holds.0,
      subst (λ k. CanComeHome c.args.own c.requires.holds.0 k c.loop-done.token.me
          c.loop-done.handles.items) (sym n)
          (c.loop-done.invariant.holds c.requires.holds.0 c.requires.holds.1),
    )

pub loop-done-init : goal.loop-done-init
loop-done-init c = record {
  table = refl;
  count = omega arith;
  left = none-gone c.args.own c.args.handles.items c.args.token.now.me.0.account c.requires.own;
  holds = λ whole can. can;
}

pub loop-done-preserved : goal.loop-done-preserved
loop-done-preserved c =
    let n : ((c.len-count.result - 1) - c.loop-done.done) + 1 ≡ length c.loop-done.handles.items =
    omega (arith, c.len-count.ensures, c.loop-done.invariant.count, c.loop-done-test.true) in
    let step = λ (whole : List Entry)
    (can : CanComeHome c.args.own whole (length c.args.handles.items) c.args.token.now.me
    c.args.handles.items).
    c.come_home.ensures.holds whole
    (subst (λ k. CanComeHome c.args.own whole k c.loop-done.token.me c.loop-done.handles.items)
    (sym n)
    (c.loop-done.invariant.holds whole can)) in
    let left = (step c.requires.holds.0 c.requires.holds.1).held.count in
    record {
      table = c.come_home.ensures.table ∙ c.loop-done.invariant.table;
      count = omega (arith, left, n, c.loop-done.invariant.count);
      left = one-gone c.args.own c.args.handles.items c.loop-done.handles.items
          c.come_home.new.handles.items c.args.token.now.me.0.account
          c.loop-done.token.me.0.account c.come_home.new.token.me.0.account
          ((c.len-count.result - 1) - c.loop-done.done) n c.loop-done.invariant.left
          c.come_home.ensures.home;
      holds = λ whole can.
          subst (λ k. CanComeHome c.args.own whole k c.come_home.new.token.me
          c.come_home.new.handles.items) (sym left) (step whole can);
    }

pub returns-clause-idle : goal.returns-clause-idle
returns-clause-idle c =
    let none : length c.loop-done.handles.items ≡ 0 =
    omega (arith, c.len-count.ensures, c.loop-done.invariant.count, c.loop-done-test.false) in
    (home-all c.args.own (length c.loop-done.handles.items) c.requires.holds.0 c.loop-done.token.me
    c.loop-done.handles.items none
    (c.loop-done.invariant.holds c.requires.holds.0 c.requires.holds.1)).0

pub returns-clause-seen : goal.returns-clause-seen
returns-clause-seen c whole can =
    let none : length c.loop-done.handles.items ≡ 0 =
    omega (arith, c.len-count.ensures, c.loop-done.invariant.count, c.loop-done-test.false) in
    (home-all c.args.own (length c.loop-done.handles.items) whole c.loop-done.token.me
    c.loop-done.handles.items none (c.loop-done.invariant.holds whole can)).1

pub returns-clause-home : goal.returns-clause-home
returns-clause-home c =
    c.loop-done.invariant.left.home
    (omega (arith, c.len-count.ensures, c.loop-done.invariant.count, c.loop-done-test.false))
