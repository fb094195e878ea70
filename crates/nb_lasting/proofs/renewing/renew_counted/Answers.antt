use Rattle.std.proofs.Common.{◌≡◌, ◌∙◌, ◌*◌, ◌<◌, ◌≤◌, ◌^◌, ap, arith, inl, inr, max, refl, subst, sym}
use Rattle.nb_core.specs.Log.{log_of}
use Rattle.nb_map.specs.Handles.{seats_of}
use Rattle.nb_lasting.specs.Gathered.{IsPartedCounted, parts_of}
use Rattle.nb_lasting.specs.Renewal.{HoldsStill}
use Rattle.nb_lasting.specs.Shared.{FitsLanes}
use Rattle.nb_lasting.specs.Lasting.{HasSlots, shape_made_for}
use Rattle.nb_lasting.proofs.Counted.{called-home, can-come-home, full-home, made-anew, nothing-seen, one-log, room-anew, room-left, still-by, still-holds}
use Rattle.nb_lasting.proofs.Dealt.{all-of-map, still-dealt, still-single}
use Rattle.nb_lasting.proofs.Homes.{home-seen}
use Rattle.nb_lasting.proofs.Renewed.{each-parted}
use Rattle.nb_lasting.proofs.Sizes.{slots_fewer}
use Rattle.nb_lasting.specs.inside.Guests.{hall_of}
use Rattle.nb_lasting.proofs.renewing.renew_counted.Goals as goal

pub join_counted-whole-requires : goal.join_counted-whole-requires
join_counted-whole-requires g c = record {
  single = still-single c.args.hall.now.table.shared.key.seats c.args.token.now.me
      c.args.handles.items
      c.args.hall.now.some c.args.hall.now.few c.requires.holds;
  all = all-of-map c.args.hall.now.table.shared.key.seats c.args.token.now.me
      c.args.handles.items c.args.hall.now.some c.requires.seated c.requires.holds;
}

pub deal_all-requires-clause-holds : goal.deal_all-requires-clause-holds
deal_all-requires-clause-holds g c =
    let n = c.args.hall.now.table.shared.key.seats in
    let me = c.args.token.now.me in
    let before = c.args.handles.items in
    let after = c.split_handle.result.items in
    let some = c.args.hall.now.some in
    let few = c.args.hall.now.few in
    let holds = c.requires.holds in
    let result = c.join_counted-whole.result.2 in
    let is = subst (λ hs. IsPartedCounted before hs result) (sym c.split_handle.ensures)
    c.join_counted-whole.ensures.counted in
    let still = (still-by n me before after some few holds result is).0 in
    still-dealt n me after (still-holds n me before after some few holds still)

pub all_home-requires : goal.all_home-requires
all_home-requires g c =
    let n = c.args.hall.now.table.shared.key.seats in
    let me = c.args.token.now.me in
    let before = c.args.handles.items in
    let after = c.split_handle-then-size-ge-GREATEST.result.items in
    let some = c.args.hall.now.some in
    let few = c.args.hall.now.few in
    let holds = c.requires.holds in
    let result = c.join_counted-whole.result.2 in
    let is = subst (λ hs. IsPartedCounted before hs result)
    (sym c.split_handle-then-size-ge-GREATEST.ensures) c.join_counted-whole.ensures.counted in
    let still = (still-by n me before after some few holds result is).0 in
    record {
      table = c.requires.table;
      lanes = omega (arith, still.held.count);
      own = omega (arith, still.held.count, c.requires.own);
      holds = (
        log_of (still.know c.args.own),
        can-come-home n me before after some few holds still c.args.own c.requires.guest
            c.requires.own,
      );
    }

pub returns-then-size-ge-GREATEST : goal.returns-then-size-ge-GREATEST
returns-then-size-ge-GREATEST g c =
    let n = c.args.hall.now.table.shared.key.seats in
    let me = c.args.token.now.me in
    let then = c.all_home.new.token.me.0 in
    let before = c.args.handles.items in
    let after = c.split_handle-then-size-ge-GREATEST.result.items in
    let some = c.args.hall.now.some in
    let few = c.args.hall.now.few in
    let holds = c.requires.holds in
    let result = c.join_counted-whole.result.2 in
    let is = subst (λ hs. IsPartedCounted before hs result)
    (sym c.split_handle-then-size-ge-GREATEST.ensures) c.join_counted-whole.ensures.counted in
    let still = (still-by n me before after some few holds result is).0 in
    let great : 2 ^ 28 ≤ c.in-Ok.size = omega (arith, c.if-size-ge-GREATEST.true) in
    record {
      table = c.all_home.ensures.table;
      idle = c.all_home.ensures.idle;
      called = called-home n me before after some few holds still c.args.own c.requires.guest
          c.requires.own me.0 refl then c.all_home.ensures.seen;
      anew = tt;
      made = tt;
      still = inr (inl (home-seen me.0.map me.0.filled me.0.past n holds.knew after c.args.own
          me.0.account then.account still c.all_home.ensures.home));
      kept = λ is. absurd cc;
      full = λ _. full-home n me before after some few holds result is c.in-Ok.size c.in-Ok.is
          c.args.own c.requires.guest c.requires.own then c.all_home.ensures.seen great;
    }

pub renew_all-requires : goal.renew_all-requires
renew_all-requires g c =
    let n = c.args.hall.now.table.shared.key.seats in
    let me = c.args.token.now.me in
    let before = c.args.handles.items in
    let whole = c.join_counted-whole.result.0 in
    let after = parts_of whole in
    let some = c.args.hall.now.some in
    let few = c.args.hall.now.few in
    let holds = c.requires.holds in
    let result = c.join_counted-whole.result.2 in
    let is = c.join_counted-whole.ensures.counted in
    let still = (still-by n me before after some few holds result is).0 in
    let seats = c.shape_for-shape.ensures.seats ∙ c.slot_count.ensures ∙ c.args.hall.now.slots in
    let less : c.in-Ok.size < 2 ^ 28 = omega (arith, c.if-size-ge-GREATEST.false) in
    let fewer : c.in-Ok.size ≤ c.max-keys.result =
    omega (arith, c.saturating_mul.ensures, c.max-keys.ensures, c.if-size-ge-GREATEST.false) in
    record {
      table = c.requires.table;
      settling = omega (arith, seats, c.requires.settling);
      shape = seats;
      slots = slots_fewer c.shape_for-shape.result c.args.hall.now.table.shared.key.keys
          c.max-keys.result (omega (arith, c.max-keys.ensures, c.args.hall.now.anew))
          c.shape_for-shape.ensures.slots;
      seated = subst (λ k. FitsLanes k me.0) (sym seats) c.requires.seated;
      whole = c.join_counted-whole.ensures.whole;
      holds = subst (λ k. HoldsStill k me after) (sym seats)
          (still-holds n me before after some few holds still);
      settled = one-log n me before after some few holds result is c.in-Ok.size c.in-Ok.is;
      fits = λ many.
          room-left n me before after some few holds result is c.in-Ok.size c.in-Ok.is
          c.shape_for-shape.result c.max-keys.result less fewer c.shape_for-shape.ensures.slots
          (whole, sym (each-parted whole.map (seats_of whole)), many);
      empty = c.join_counted-whole.ensures.empty;
      room = c.join_counted-whole.ensures.room;
    }

pub returns-in-Ok-renew_all : goal.returns-in-Ok-renew_all
returns-in-Ok-renew_all g c =
    let n = c.args.hall.now.table.shared.key.seats in
    let me = c.args.token.now.me in
    let then = c.renew_all.new.token.me.0 in
    let before = c.args.handles.items in
    let after = parts_of c.join_counted-whole.result.0 in
    let some = c.args.hall.now.some in
    let few = c.args.hall.now.few in
    let result = c.join_counted-whole.result.2 in
    let is = c.join_counted-whole.ensures.counted in
    let keys = c.max-keys.result in
    let slots = c.shape_for-shape.ensures.slots in
    let twice : keys ≡ max (2 * c.in-Ok.size) c.args.hall.now.least =
    omega (arith, c.saturating_mul.ensures, c.max-keys.ensures, c.if-size-ge-GREATEST.false) in
    record {
      table = c.renew_all.ensures.table;
      idle = record {
        guest = c.renew_all.ensures.guest.guest ∙ c.requires.guest;
        outs = c.renew_all.ensures.idle.outs;
        slots = c.renew_all.ensures.idle.slots;
      };
      called = nothing-seen c.args.own me.0 then c.renew_all.ensures.guest.seen
          c.requires.replayed;
      anew = room-anew n me before after some few c.requires.holds result is c.in-Ok.size
          c.in-Ok.is c.args.own c.requires.guest c.requires.own keys c.args.hall.now.least twice
          then (subst (HasSlots keys) (sym c.in-Ok-renew_all.ensures.anew) slots);
      made = made-anew n me before after some few c.requires.holds result is c.in-Ok.size
          c.in-Ok.is c.shape_for-shape.result keys (hall_of c.args.hall.now)
          (twice ∙ ap (max (2 * c.in-Ok.size)) c.args.hall.now.anew) slots
          (c.shape_for-shape.ensures.shape
          ∙ ap (shape_made_for keys) (c.slot_count.ensures ∙ c.args.hall.now.slots))
          me.0.account then.account c.in-Ok-renew_all.ensures.begun;
      still = tt;
      kept = λ is. absurd cc;
      full = λ is. absurd cc;
    }

pub returns-in-Err : goal.returns-in-Err
returns-in-Err g c = record {
  table = c.renew_all.ensures.table;
  idle = record {
    guest = c.renew_all.ensures.guest.guest ∙ c.requires.guest;
    outs = c.renew_all.ensures.idle.outs;
    slots = c.renew_all.ensures.idle.slots;
  };
  anew = tt;
  still = inr (inr c.in-Err.ensures.again);
  made = tt;
  called = nothing-seen c.args.own c.args.token.now.me.0 c.renew_all.new.token.me.0
      c.renew_all.ensures.guest.seen c.requires.replayed;
  kept = λ _. c.renew_all.ensures.guest.seen;
  full = λ is. absurd cc;
}
