use Rattle.std.proofs.Common.{◌≡◌, ◌∙◌, [], Some, ap, drop, length, refl, slice_get, slice_set, subst, sym, arith}
use Rattle.std.specs.Prelude.{slice_index_or}
use Rattle.std.proofs.Math.Seq.{drop-length}
use Rattle.std.proofs.lemmas.List.{set-get_or}
use Rattle.std.proofs.lemmas.Option.{slice_get-get_or}
use Rattle.nb_lasting.specs.Renewal.{HoldsBelow}
use Rattle.nb_lasting.proofs.Closed.{all-come, none-gathered}
use Rattle.nb_lasting.proofs.Dealt.{holds-none}
use Rattle.nb_lasting.proofs.Settled.{lent-count, lent-more}
use Rattle.nb_lasting.proofs.settling.lend_all.Goals as goal

pub loop-i-init : goal.loop-i-init
loop-i-init g c = record {
  table = refl;
  same = refl;
  room = omega (arith, c.in_ok-handles.ensures.capacity);
  count = ap length c.in_ok-handles.ensures.items;
  seated = λ some. absurd (omega (arith, some));
  come = record {
    done = [];
    parts = refl;
    count = ap length c.in_ok-handles.ensures.items;
    gathered = none-gathered c.args.token.now.me c.in_ok-handles.handles.items
        (holds-none c.args.token.now.me c.in_ok-handles.handles.items c.in_ok-handles.ensures.items
        c.requires.idle);
  };
}

pub lend-requires-clause-lane : goal.lend-requires-clause-lane
lend-requires-clause-lane g c =
    let i = c.loop-i.i in
    let guest = slice_index_or c.loop-i.guests i c.index-guests-i.result in
    let at : slice_get c.args.guests.now i ≡ Some guest =
    ap (λ l. slice_get l i) (sym c.loop-i.invariant.same)
    ∙ slice_get-get_or c.loop-i.guests i c.index-guests-i.result
    (omega (arith, c.loop-i-test.true, ap length c.loop-i.invariant.same)) in
    omega (
      arith,
      c.requires.all.numbered i guest at,
      c.loop-i-test.true,
      c.requires.all.count,
      ap
          length c.loop-i.invariant.same,
    )

pub lend-requires-clause-holds : goal.lend-requires-clause-holds
lend-requires-clause-holds g c =
    let i = c.loop-i.i in
    let guest = slice_index_or c.loop-i.guests i c.index-guests-i.result in
    let at : slice_get c.args.guests.now i ≡ Some guest =
    ap (λ l. slice_get l i) (sym c.loop-i.invariant.same)
    ∙ slice_get-get_or c.loop-i.guests i c.index-guests-i.result
    (omega (arith, c.loop-i-test.true, ap length c.loop-i.invariant.same)) in
    subst (λ n. HoldsBelow n c.loop-i.token.me c.loop-i.handles.items)
    (sym c.loop-i.invariant.come.count ∙ c.loop-i.invariant.count
    ∙ sym (c.requires.all.numbered i guest at))
    c.loop-i.invariant.come.gathered.holds

pub loop-i-preserved : goal.loop-i-preserved
loop-i-preserved g c =
    let i = c.loop-i.i in
    let guest = slice_index_or c.loop-i.guests i c.index-guests-i.result in
    let at : slice_get c.args.guests.now i ≡ Some guest =
    ap (λ l. slice_get l i) (sym c.loop-i.invariant.same)
    ∙ slice_get-get_or c.loop-i.guests i c.index-guests-i.result
    (omega (arith, c.loop-i-test.true, ap length c.loop-i.invariant.same)) in
    let number = c.requires.all.numbered i guest at in
    let come = lent-more c.args.guests.now i guest c.loop-i.token.me c.lend.new.token.me
    c.loop-i.handles.items c.lend.new.handles.items c.loop-i.invariant.come c.loop-i.invariant.count
    at
    number c.lend.ensures.lent in
    record {
      table = c.lend.ensures.table ∙ c.loop-i.invariant.table;
      same = ap (slice_set c.loop-i.guests i) c.lend.ensures.same
          ∙ set-get_or c.loop-i.guests i c.index-guests-i.result
          ∙ c.loop-i.invariant.same;
      room = omega (arith, c.loop-i.invariant.room, c.lend.ensures.room);
      count = lent-count i guest c.loop-i.token.me c.lend.new.token.me c.loop-i.handles.items
          c.lend.new.handles.items
          (subst (λ n. HoldsBelow n c.loop-i.token.me c.loop-i.handles.items)
          (sym c.loop-i.invariant.come.count ∙ c.loop-i.invariant.count ∙ sym number)
          c.loop-i.invariant.come.gathered.holds)
          number c.lend.ensures.lent;
      seated = λ _. c.lend.ensures.seated;
      come = come;
    }

pub returns-clause-gathered : goal.returns-clause-gathered
returns-clause-gathered g c =
    let all : c.loop-i.i ≡ length c.args.guests.now =
    omega (arith, c.loop-i-test.false, c.loop-i.auto.i-end, ap length c.loop-i.invariant.same) in
    all-come c.args.guests.now (drop c.loop-i.i c.args.guests.now) c.loop-i.token.me
    c.loop-i.handles.items c.loop-i.invariant.come
    (ap (λ n. drop n c.args.guests.now) all ∙ drop-length c.args.guests.now)
