use Rattle.std.proofs.Common.{refl, subst₂, sym}
use Rattle.std.proofs.lemmas.Result.{err_from_is_err_and}
use Rattle.nb_core.specs.declared.calls.Call.TheVariants as call
use Rattle.nb_map.proofs.Away.{made_on, stopped_on}
use Rattle.nb_map.specs.Maps.{IsMine, SeatOf}
use Rattle.nb_map.specs.Progress.{Unlimited}
use Rattle.nb_map.specs.Promises.{Refused, Replied}
use Rattle.nb_map.specs.Refusals.{as_put_fault}
use Rattle.nb_map.specs.inside.Waiting.{HasGoneOn}
use Rattle.nb_map.proofs.map.Map.write_general.Goals as goal

pub returns-in_err-reply : goal.returns-in_err-reply
returns-in_err-reply g c =
    let mine = subst₂ IsMine (sym c.self.view_is) (sym c.seat.view_is) c.requires.own in
    let after : SeatOf = record { chain = c.write_rounds.new.seat; count = c.seat.inside.count } in
    let write = call.Write c.args.key c.args.want c.args.change in
    let p = err_from_is_err_and c.from_residual.result c.from_residual.ensures.1 in
    rw (p.1, p.2)
    (subst₂ (λ map before. HasGoneOn map write before after Unlimited
    (Refused (as_put_fault c.in_err-reply.field-0.0))) c.self.view_is c.seat.view_is
    (stopped_on {after = after} mine _ c.in_err-reply.ensures refl))

pub returns : goal.returns
returns g c =
    let mine = subst₂ IsMine (sym c.self.view_is) (sym c.seat.view_is) c.requires.own in
    let after : SeatOf = record { chain = c.write_rounds.new.seat; count = c.count.new.seat } in
    let write = call.Write c.args.key c.args.want c.args.change in
    subst₂ (λ map before. HasGoneOn map write before after Unlimited (Replied c.in_ok-reply.reply))
    c.self.view_is c.seat.view_is
    (made_on {after = after} mine c.in_ok-reply.reply c.in_ok-reply.ensures c.count.ensures)
