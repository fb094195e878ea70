use Rattle.std.proofs.Common.{◌≡◌, ◌∙◌, ◌+◌, ◌≤◌, List, ap, length, refl, slice_set, subst, sym, arith}
use Rattle.std.specs.Prelude.{◌-◌, slice_index_or}
use Rattle.nb_core.specs.Log.{Entry}
use Rattle.nb_lasting.specs.Guests.{GuestOf}
use Rattle.nb_lasting.specs.Renewal.{blanks, down}
use Rattle.nb_lasting.specs.Settling.{CanSettle, KnowFrom}
use Rattle.nb_lasting.proofs.Renewed.{at-all}
use Rattle.nb_lasting.proofs.Settled.{know-all, know-more, know-none, next-settles}
use Rattle.nb_lasting.proofs.settling.settle_all.Goals as goal

pub loop-done-init : goal.loop-done-init
loop-done-init c =
    let all = c.requires.can.1.held.count in
    record {
      table = refl;
      count = omega (arith, all);
      settled = λ whole can. (
        subst (λ n. CanSettle whole n c.args.token.now.me c.args.handles.items) (sym all) can,
        know-none (length c.args.handles.items) whole c.args.guests.now all,
      );
    }

pub settle-requires-clause-table : goal.settle-requires-clause-table
settle-requires-clause-table c =
    let k = length c.args.guests.now - 1 - c.loop-done.done in
    let n = length c.loop-done.handles.items in
    let more : n ≡ k + 1 = omega (arith, c.loop-done.invariant.count, c.loop-done-test.true) in
    let within : n ≤ length c.args.guests.now = omega (arith, c.loop-done.invariant.count) in
    let guest = slice_index_or c.loop-done.guests k c.index-guests-count.result in
    let at = next-settles n k c.requires.can.0 c.args.guests.now c.loop-done.guests
    c.index-guests-count.result more within
    (c.loop-done.invariant.settled c.requires.can.0 c.requires.can.1).1 in (
      at-all (λ (g : GuestOf). g.of.id ≡ c.args.hall.now.table.shared.table_id) c.args.guests.now k guest
          c.requires.all.of at,
      c.loop-done.invariant.table ∙ c.requires.table,
    )

pub settle-requires-clause-lane : goal.settle-requires-clause-lane
settle-requires-clause-lane c =
    let k = length c.args.guests.now - 1 - c.loop-done.done in
    let n = length c.loop-done.handles.items in
    let more : n ≡ k + 1 = omega (arith, c.loop-done.invariant.count, c.loop-done-test.true) in
    let within : n ≤ length c.args.guests.now = omega (arith, c.loop-done.invariant.count) in
    let guest = slice_index_or c.loop-done.guests k c.index-guests-count.result in
    let at = next-settles n k c.requires.can.0 c.args.guests.now c.loop-done.guests
    c.index-guests-count.result more within
    (c.loop-done.invariant.settled c.requires.can.0 c.requires.can.1).1 in
    omega (arith, c.requires.all.numbered k guest at, c.requires.all.count, more, within)

pub settle-requires-clause-can : goal.settle-requires-clause-can
settle-requires-clause-can c =
    let k = length c.args.guests.now - 1 - c.loop-done.done in
    let n = length c.loop-done.handles.items in
    let more : n ≡ k + 1 = omega (arith, c.loop-done.invariant.count, c.loop-done-test.true) in
    let within : n ≤ length c.args.guests.now = omega (arith, c.loop-done.invariant.count) in
    let guest = slice_index_or c.loop-done.guests k c.index-guests-count.result in
    let settled = c.loop-done.invariant.settled c.requires.can.0 c.requires.can.1 in
    let at = next-settles n k c.requires.can.0 c.args.guests.now c.loop-done.guests
    c.index-guests-count.result more within settled.1 in
    let number = c.requires.all.numbered k guest at in
    let here : n ≡ guest.number + 1 = omega (arith, number, more) in (
      c.requires.can.0,
      subst (λ m. CanSettle c.requires.can.0 m c.loop-done.token.me c.loop-done.handles.items) here
          settled.0,
    )

pub loop-done-preserved : goal.loop-done-preserved
loop-done-preserved c =
    let k = length c.args.guests.now - 1 - c.loop-done.done in
    let n = length c.loop-done.handles.items in
    let more : n ≡ k + 1 = omega (arith, c.loop-done.invariant.count, c.loop-done-test.true) in
    let within : n ≤ length c.args.guests.now = omega (arith, c.loop-done.invariant.count) in
    let guest = slice_index_or c.loop-done.guests k c.index-guests-count.result in
    let settled = c.loop-done.invariant.settled c.requires.can.0 c.requires.can.1 in
    let at = next-settles n k c.requires.can.0 c.args.guests.now c.loop-done.guests
    c.index-guests-count.result more within settled.1 in
    let number = c.requires.all.numbered k guest at in
    let here : n ≡ guest.number + 1 = omega (arith, number, more) in
    let left = (c.settle.ensures.settled c.requires.can.0
    (subst (λ m. CanSettle c.requires.can.0 m c.loop-done.token.me c.loop-done.handles.items) here
    settled.0)).0.held.count in
    record {
      table = c.settle.ensures.table ∙ c.loop-done.invariant.table;
      count = omega (arith, left, number, more, c.loop-done.invariant.count);
      settled = λ (whole : List Entry)
          (can : CanSettle whole
          (length c.args.guests.now) c.args.token.now.me c.args.handles.items).
          let was = c.loop-done.invariant.settled whole can in
          let now = c.settle.ensures.settled whole
          (subst (λ m. CanSettle whole m c.loop-done.token.me c.loop-done.handles.items) here was.0)
          in (
            subst (λ m. CanSettle whole m c.settle.new.token.me c.settle.new.handles.items)
                (sym left)
                now.0,
            subst (λ m. KnowFrom m whole c.args.guests.now
                (slice_set c.loop-done.guests k c.settle.new.self)) (sym (left ∙ number))
                (know-more n k whole c.args.guests.now c.loop-done.guests guest c.settle.new.self
                more
                was.1 at now.1),
          );
    }

pub returns-clause-idle : goal.returns-clause-idle
returns-clause-idle c =
    let none : length c.loop-done.handles.items ≡ 0 =
    omega (arith, c.loop-done.invariant.count, c.loop-done-test.false) in
    let can = (c.loop-done.invariant.settled c.requires.can.0 c.requires.can.1).0 in
    record {
      outs = can.outs ∙ ap (down can.knew) none;
      slots = can.slots ∙ ap blanks none;
    }

pub returns-clause-settled : goal.returns-clause-settled
returns-clause-settled c whole can =
    let none : length c.loop-done.handles.items ≡ 0 =
    omega (arith, c.loop-done.invariant.count, c.loop-done-test.false) in
    let know = (c.loop-done.invariant.settled whole can).1 in
    know-all whole c.args.guests.now c.loop-done.guests know.count
    (λ i guest at. know.from i guest (omega (arith, none)) at)
