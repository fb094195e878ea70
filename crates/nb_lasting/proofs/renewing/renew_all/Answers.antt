use Rattle.std.proofs.Common.{◌∙◌, ◌≤◌, ap, arith, length, subst, sym}
use Rattle.std.proofs.lemmas.List.{length-map}
use Rattle.nb_map.specs.Handles.{handle_on, seats_of}
use Rattle.nb_map.specs.Maps.{MapOf}
use Rattle.nb_lasting.specs.Gathered.{parts_of}
use Rattle.nb_lasting.proofs.Dealt.{begun-in, deals, done_ok}
use Rattle.nb_lasting.proofs.Refused.{renewed-long}
use Rattle.nb_lasting.proofs.Renewed.{begun-as, parted-anew}
use Rattle.nb_lasting.proofs.renewing.renew_all.Goals as goal

pub renew_or_settle-renewed-requires : goal.renew_or_settle-renewed-requires
renew_or_settle-renewed-requires g c =
    let long = sym (length-map (seats_of c.args.whole) (handle_on c.args.whole.map))
    ∙ c.requires.holds.still.held.count in
    record {
      whole = c.requires.whole;
      settling = omega (arith, long, c.requires.settling);
      room = c.requires.fits;
    }

pub split_handle-requires : goal.split_handle-requires
split_handle-requires g c =
    let long = sym (length-map (seats_of c.args.whole) (handle_on c.args.whole.map))
    ∙ c.requires.holds.still.held.count in
    record {
      empty = c.requires.empty;
      room = omega (
        arith,
        long,
        renewed-long c.args.shape c.renew_or_settle-renewed.result c.args.whole
            c.renew_or_settle-renewed.new.whole long c.renew_or_settle-renewed.ensures.renewed
            c.renew_or_settle-renewed.ensures.rested,
        c.requires.room,
      );
    }

pub deal_renewed-requires : goal.deal_renewed-requires
deal_renewed-requires g c =
    let seats = c.requires.shape in
    let is = parted-anew c.args.shape c.args.whole c.renew_or_settle-renewed.new.whole
    c.split_handle.result.items c.renew_or_settle-renewed.result c.split_handle.ensures
    c.renew_or_settle-renewed.ensures.renewed c.renew_or_settle-renewed.ensures.rested in
    let done = deals c.args.shape c.args.token.now.me (parts_of c.args.whole)
    c.split_handle.result.items (subst (λ n. 1 ≤ n) (sym seats) c.args.hall.now.some)
    (subst (λ n. n ≤ 256) (sym seats) c.args.hall.now.few) c.requires.seated c.requires.holds
    c.requires.settled c.args.hall.now.table.shared.key.keys c.requires.slots
    c.renew_or_settle-renewed.result is in
    record { table = c.requires.table; lanes = done.0 ∙ seats; anew = done.1.0 }

pub returns : goal.returns
returns g c =
    let seats = c.requires.shape in
    let me = c.args.token.now.me in
    let renewed = c.renew_or_settle-renewed.result in
    let after = c.split_handle.result.items in
    let some = subst (λ n. 1 ≤ n) (sym seats) c.args.hall.now.some in
    let is = parted-anew c.args.shape c.args.whole c.renew_or_settle-renewed.new.whole after renewed
    c.split_handle.ensures c.renew_or_settle-renewed.ensures.renewed
    c.renew_or_settle-renewed.ensures.rested in
    let done = deals c.args.shape me (parts_of c.args.whole) after some
    (subst (λ n. n ≤ 256) (sym seats) c.args.hall.now.few) c.requires.seated c.requires.holds
    c.requires.settled c.args.hall.now.table.shared.key.keys c.requires.slots renewed is in
    record {
      table = c.deal_renewed.ensures.table;
      guest = c.deal_renewed.ensures.guest;
      again = begun-in renewed c.args.hall.now.table.shared.key.keys (length after) me after done.1.0
          me.0.account c.deal_renewed.new.token.me.0.account done.1.2 c.deal_renewed.ensures.begun;
      begun = begun-as c.args.shape c.args.shape.seats me.0.map me.0.filled me.0.past
          c.requires.holds.still.know (parts_of c.args.whole) after me.0.account
          c.deal_renewed.new.token.me.0.account renewed some c.requires.holds.still.held is
          c.deal_renewed.ensures.begun;
      idle = c.deal_renewed.ensures.idle;
      anew = done_ok renewed (λ shaped.
          ap (λ (m : MapOf). m.chain.shape) (c.deal_renewed.ensures.map done.1.0) ∙ shaped)
          done.1.1;
    }
