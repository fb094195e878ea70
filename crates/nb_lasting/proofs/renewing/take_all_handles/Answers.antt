use Rattle.std.proofs.Common.{◌∙◌, ap, length, refl, sym, arith}
use Rattle.nb_lasting.proofs.Dealt.{holds-none}
use Rattle.nb_lasting.proofs.Grown.{took-snoc}
use Rattle.nb_lasting.specs.Visits.{took, took_all}
use Rattle.nb_lasting.proofs.renewing.take_all_handles.Goals as goal

pub loop-lane-init : goal.loop-lane-init
loop-lane-init g c = record {
  table = refl;
  guest = record { guest = refl; seen = refl; dealer = refl };
  account = sym (ap (λ hs. took_all hs c.args.token.now.me.0.account)
      c.in_ok-handles.ensures.items);
  room = omega (
    arith,
    c.in_ok-handles.ensures.capacity,
    c.slot_count-seats.ensures,
    c.args.hall.now.slots,
  );
  count = ap length c.in_ok-handles.ensures.items;
  seated = λ some. absurd (omega (arith, some));
  holds = holds-none c.args.token.now.me c.in_ok-handles.handles.items c.in_ok-handles.ensures.items
      c.requires.idle;
}

pub loop-lane-preserved : goal.loop-lane-preserved
loop-lane-preserved g c =
    let was = c.loop-lane.invariant in
    let is = c.take_handle.ensures in
    record {
      table = is.table ∙ was.table;
      guest = record {
        guest = is.guest.guest ∙ was.guest.guest;
        seen = is.guest.seen ∙ was.guest.seen;
        dealer = is.guest.dealer ∙ was.guest.dealer;
      };
      account = is.taken.account ∙ ap (took is.taken.handle) was.account
          ∙ sym (took-snoc c.loop-lane.handles.items is.taken.handle c.args.token.now.me.0.account)
          ∙ ap (λ hs. took_all hs c.args.token.now.me.0.account) (sym is.taken.all);
      room = omega (arith, is.room, was.room);
      count = is.holds.held.count;
      seated = λ _. is.seated;
      holds = is.holds;
    }
