use Rattle.std.proofs.Common.{ap, inl, inr, refl}
use Rattle.std.specs.Prelude.{Option}
use Rattle.atomic_table.specs.Table.{Me}
use Rattle.nb_map.specs.Handles.{HandleOf}
use Rattle.nb_lasting.specs.declared.shared.LaneView.{LaneView}
use Rattle.nb_lasting.specs.inside.Guests.{hall_of}
use Rattle.nb_lasting.proofs.Dealt.{as-held, held-still}
use Rattle.nb_lasting.proofs.Going.{back-by, taken-all}
use Rattle.nb_lasting.proofs.renewing.renew_through.Goals as goal

pub deal_all-requires-clause-holds : goal.deal_all-requires-clause-holds
deal_all-requires-clause-holds g c =
    as-held c.args.hall.now.table.shared.key.seats c.take_all_handles.new.token.me
    c.in_ok-handles.handles.items c.in_ok-handles.ensures.holds

pub renew_counted-requires-clause-holds : goal.renew_counted-requires-clause-holds
renew_counted-requires-clause-holds g c =
    held-still c.args.hall.now.table.shared.key.seats c.take_all_handles.new.token.me
    c.in_ok-handles.handles.items c.in_ok-handles.ensures.holds

pub returns-then-load-renewals-clause-round : goal.returns-then-load-renewals-clause-round
returns-then-load-renewals-clause-round g c =
    inr (
      c.in_ok-handles.handles.items,
      c.take_all_handles.new.token.me.0.account,
      taken-all (hall_of c.args.hall.now) c.args.token.now.me.0.account
          c.take_all_handles.new.token.me c.in_ok-handles.handles.items
          c.in_ok-handles.ensures.holds c.in_ok-handles.ensures.taken,
      inl (inl c.deal_all.ensures.account),
    )

pub returns-clause-round : goal.returns-clause-round
returns-clause-round g c =
    inr (
      c.in_ok-handles.handles.items,
      c.take_all_handles.new.token.me.0.account,
      taken-all (hall_of c.args.hall.now) c.args.token.now.me.0.account
          c.take_all_handles.new.token.me c.in_ok-handles.handles.items
          c.in_ok-handles.ensures.holds c.in_ok-handles.ensures.taken,
      back-by c.renew_counted.result (hall_of c.args.hall.now) c.args.own
          c.args.hall.now.table.shared.key.seats c.take_all_handles.new.token.me
          c.in_ok-handles.handles.items c.renew_counted.new.token.me.0.account c.requires.own
          c.in_ok-handles.ensures.holds c.renew_counted.ensures.made
          c.renew_counted.ensures.still,
    )

pub returns-in_err-settling-clause-round : goal.returns-in_err-settling-clause-round
returns-in_err-settling-clause-round g c = inl refl

pub returns-in_err-handles-clause-round : goal.returns-in_err-handles-clause-round
returns-in_err-handles-clause-round g c =
    inl (ap (λ (m : Me (Option HandleOf) LaneView). m.0.account) c.in_err-handles.ensures.kept)
