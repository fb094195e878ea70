use Rattle.std.proofs.Common.{◌≡◌, ◌∙◌, [], Err, ap, false, inl, inr, refl, subst, sym, true}
use Rattle.std.specs.Prelude.{Option}
use Rattle.atomic_table.specs.Table.{Me}
use Rattle.nb_core.specs.Log.{log_of}
use Rattle.nb_core.specs.declared.calls.Call.TheVariants.{Write}
use Rattle.nb_map.specs.Handles.{HandleOf}
use Rattle.nb_map.specs.declared.faults.PutFault.TheVariants as put_fault
use Rattle.nb_lasting.specs.Holding.{HasTriedOnAs, HasTriedIn}
use Rattle.nb_lasting.specs.Lasting.{as_write_fault}
use Rattle.nb_lasting.specs.Shared.{known_of}
use Rattle.nb_lasting.specs.declared.faults.WriteFault.TheVariants as fault
use Rattle.nb_lasting.specs.declared.shared.LaneView.{LaneView}
use Rattle.nb_lasting.specs.inside.Guests.{hall_of}
use Rattle.nb_lasting.proofs.Counted.{called-from}
use Rattle.nb_lasting.proofs.Going.{goes-anew, goes-refused, goes-with-all, home-still, taken-all}
use Rattle.nb_lasting.proofs.Written.{full-crowded, full-still, is-err, refused-so, tried-so, wrote-home, wrote-since}
use Rattle.nb_lasting.proofs.renewing.write_or_renew.Goals as goal

pub renew_counted-requires-clause-holds : goal.renew_counted-requires-clause-holds
renew_counted-requires-clause-holds g c =
    let n = c.args.hall.now.table.shared.key.seats in
    let me = c.take_all_handles.new.token.me in
    let before = c.in_ok-handles.handles.items in
    let after = c.write_by-reply.new.handles.items in
    let call = Write c.args.key c.args.want.now c.args.change.now in
    let result = c.write_by-reply.result in
    let holds = c.in_ok-handles.ensures.holds in
    let some = c.args.hall.now.some in
    let guest = c.take_all_handles.ensures.guest.guest ∙ c.requires.idle.guest in
    let below = c.requires.own in
    let wrote = c.write_by-reply.ensures in
    let full : c.write_by-reply.result ≡ Err put_fault.Full =
    c.found_full.ensures.0 c.if-found_full.true in
    full-still n c.args.own me before after call result holds some guest below wrote full

pub returns-in_err-renew_counted-clause-tried : goal.returns-in_err-renew_counted-clause-tried
returns-in_err-renew_counted-clause-tried g c =
    let n = c.args.hall.now.table.shared.key.seats in
    let me = c.take_all_handles.new.token.me in
    let before = c.in_ok-handles.handles.items in
    let after = c.write_by-reply.new.handles.items in
    let call = Write c.args.key c.args.want.now c.args.change.now in
    let result = c.write_by-reply.result in
    let holds = c.in_ok-handles.ensures.holds in
    let some = c.args.hall.now.some in
    let guest = c.take_all_handles.ensures.guest.guest ∙ c.requires.idle.guest in
    let below = c.requires.own in
    let wrote = c.write_by-reply.ensures in
    let full : c.write_by-reply.result ≡ Err put_fault.Full =
    c.found_full.ensures.0 c.if-found_full.true in
    let old = c.args.token.now.me.0 in
    let then = c.renew_counted.new.token.me.0 in
    let seen = c.take_all_handles.ensures.guest.seen in
    let fault = c.in_err-renew_counted.field-0.0 in
    let tried = refused-so c.args.own old then call after fault
    (called-from c.args.own old me.0 then [] seen c.renew_counted.ensures.called) c.requires.new_key
    (full-crowded n c.args.own me before after call result holds some guest below wrote full)
    (λ is. c.renew_counted.ensures.kept (c.in_err-renew_counted.was ∙ ap Err is) ∙ seen)
    (λ is. c.renew_counted.ensures.full (c.in_err-renew_counted.was ∙ ap Err is)) in
    subst (HasTriedIn c.args.own old then call)
    (sym (is-err c.from_residual-in_err-renew_counted.result (as_write_fault fault) c.from_residual-in_err-renew_counted.ensures.1)) tried

pub all_home-requires-clause-holds : goal.all_home-requires-clause-holds
all_home-requires-clause-holds g c =
    let n = c.args.hall.now.table.shared.key.seats in
    let me = c.take_all_handles.new.token.me in
    let before = c.in_ok-handles.handles.items in
    let after = c.write_by-reply.new.handles.items in
    let call = Write c.args.key c.args.want.now c.args.change.now in
    let result = c.write_by-reply.result in
    let holds = c.in_ok-handles.ensures.holds in
    let some = c.args.hall.now.some in
    let guest = c.take_all_handles.ensures.guest.guest ∙ c.requires.idle.guest in
    let below = c.requires.own in
    let wrote = c.write_by-reply.ensures in (
      log_of (known_of me.0.filled me.0.past wrote.new.seat),
      wrote-home n c.args.own me before after call result holds some guest below wrote,
    )

pub returns-clause-tried : goal.returns-clause-tried
returns-clause-tried g c =
    let n = c.args.hall.now.table.shared.key.seats in
    let me = c.take_all_handles.new.token.me in
    let before = c.in_ok-handles.handles.items in
    let after = c.write_by-reply.new.handles.items in
    let call = Write c.args.key c.args.want.now c.args.change.now in
    let result = c.write_by-reply.result in
    let holds = c.in_ok-handles.ensures.holds in
    let some = c.args.hall.now.some in
    let guest = c.take_all_handles.ensures.guest.guest ∙ c.requires.idle.guest in
    let below = c.requires.own in
    let wrote = c.write_by-reply.ensures in
    subst (HasTriedIn c.args.own c.args.token.now.me.0 c.all_home.new.token.me.0 call)
    (sym c.tried.ensures)
    (tried-so c.args.own c.args.token.now.me.0 c.all_home.new.token.me.0 call result
    (wrote-since n c.args.own me before after call result holds some guest below wrote
    c.args.token.now.me.0 c.take_all_handles.ensures.guest.seen c.all_home.new.token.me.0
    c.all_home.ensures.seen))

pub returns-in_err-settling-clause-on : goal.returns-in_err-settling-clause-on
returns-in_err-settling-clause-on g c =
    goes-refused (Write c.args.key c.args.want.now c.args.change.now) c.args.own
    (hall_of c.args.hall.now) c.args.token.now.me.0.account c.args.token.now.me.0.account
    c.from_residual.result fault.OutOfMemory
    (is-err c.from_residual.result fault.OutOfMemory c.from_residual.ensures.1) (inl refl)

pub returns-in_err-handles-clause-on : goal.returns-in_err-handles-clause-on
returns-in_err-handles-clause-on g c =
    goes-refused (Write c.args.key c.args.want.now c.args.change.now) c.args.own
    (hall_of c.args.hall.now) c.args.token.now.me.0.account c.take_all_handles.new.token.me.0.account
    c.from_residual-in_err-handles.result fault.OutOfMemory
    (is-err c.from_residual-in_err-handles.result fault.OutOfMemory c.from_residual-in_err-handles.ensures.1)
    (inl (ap (λ (m : Me (Option HandleOf) LaneView). m.0.account) c.in_err-handles.ensures.kept))

pub returns-in_err-renew_counted-clause-on : goal.returns-in_err-renew_counted-clause-on
returns-in_err-renew_counted-clause-on g c =
    let old = c.args.token.now.me.0.account in
    let new = c.renew_counted.new.token.me.0.account in
    goes-refused (Write c.args.key c.args.want.now c.args.change.now) c.args.own
    (hall_of c.args.hall.now) old new c.from_residual-in_err-renew_counted.result
    (as_write_fault c.in_err-renew_counted.field-0.0)
    (is-err c.from_residual-in_err-renew_counted.result (as_write_fault c.in_err-renew_counted.field-0.0)
    c.from_residual-in_err-renew_counted.ensures.1)
    (inr (
      c.in_ok-handles.handles.items,
      c.take_all_handles.new.token.me.0.account,
      taken-all (hall_of c.args.hall.now) old c.take_all_handles.new.token.me
          c.in_ok-handles.handles.items c.in_ok-handles.ensures.holds
          c.in_ok-handles.ensures.taken,
      home-still c.args.own c.args.hall.now.table.shared.key.seats
          c.take_all_handles.new.token.me c.in_ok-handles.handles.items new c.requires.own
          c.in_ok-handles.ensures.holds c.in_err-renew_counted.ensures.still,
    ))

pub returns-then-found_full-clause-on : goal.returns-then-found_full-clause-on
returns-then-found_full-clause-on g c =
    let old = c.args.token.now.me.0.account in
    goes-anew (Write c.args.key c.args.want.now c.args.change.now) c.args.own
    (hall_of c.args.hall.now) old c.in_ok-handles.handles.items c.take_all_handles.new.token.me.0.account
    (taken-all (hall_of c.args.hall.now) old c.take_all_handles.new.token.me
    c.in_ok-handles.handles.items c.in_ok-handles.ensures.holds c.in_ok-handles.ensures.taken)
    c.renew_counted.new.token.me.0.account c.in_ok-renew_counted.ensures.made

pub returns-clause-on : goal.returns-clause-on
returns-clause-on g c =
    let call = Write c.args.key c.args.want.now c.args.change.now in
    let of = hall_of c.args.hall.now in
    let old = c.args.token.now.me.0.account in
    let new = c.all_home.new.token.me.0.account in
    subst (HasTriedOnAs call c.args.own of old new) (sym c.tried.ensures)
    (goes-with-all call c.args.own of old c.in_ok-handles.handles.items
    c.take_all_handles.new.token.me.0.account
    (taken-all of old c.take_all_handles.new.token.me c.in_ok-handles.handles.items
    c.in_ok-handles.ensures.holds c.in_ok-handles.ensures.taken)
    c.write_by-reply.new.handles.items new c.write_by-reply.result c.write_by-reply.ensures
    c.all_home.ensures.home (λ full.
    absurd (let wrong : true ≡ false = sym (c.found_full.ensures.1 full)
    ∙ c.if-found_full.false in cc)))
