use Rattle.std.proofs.Common.{Err, Ok, refl, subst₂, sym}
use Rattle.std.proofs.lemmas.Result.{err_from_is_err_and}
use Rattle.nb_core.specs.declared.calls.Call.TheVariants as call
use Rattle.nb_map.proofs.There.{made-there, refused-there}
use Rattle.nb_map.specs.Maps.{IsMine, SeatOf}
use Rattle.nb_map.specs.Slots.{HasWrittenAt, KeyHasSlot}
use Rattle.nb_map.proofs.map.Map.put_if_match_at.Goals as goal

pub returns-in_err-reply : goal.returns-in_err-reply
returns-in_err-reply c =
    let mine = subst₂ IsMine (sym c.self.view_is) (sym c.seat.view_is) c.requires.own in
    let has = subst₂ (λ map seat. KeyHasSlot map seat c.args.slot c.args.key) (sym c.self.view_is)
    (sym c.seat.view_is) c.requires.slot in
    let after : SeatOf = record { chain = c.write_there.new.seat; count = c.seat.inside.count } in
    let write = call.Write c.args.key c.args.want c.args.change in
    let p = err_from_is_err_and c.from_residual.result c.from_residual.ensures.1 in
    rw (p.1, p.2)
    (subst₂ (λ map before. HasWrittenAt map c.args.slot c.args.key write before after c.args.tries
    (Err c.in_err-reply.field-0.0)) c.self.view_is c.seat.view_is
    (refused-there {after = after} mine has _ c.in_err-reply.ensures refl))

pub returns : goal.returns
returns c =
    let mine = subst₂ IsMine (sym c.self.view_is) (sym c.seat.view_is) c.requires.own in
    let has = subst₂ (λ map seat. KeyHasSlot map seat c.args.slot c.args.key) (sym c.self.view_is)
    (sym c.seat.view_is) c.requires.slot in
    let after : SeatOf = record { chain = c.write_there.new.seat; count = c.count.new.seat } in
    let write = call.Write c.args.key c.args.want c.args.change in
    subst₂ (λ map before. HasWrittenAt map c.args.slot c.args.key write before after c.args.tries
    (Ok c.in_ok-reply.reply)) c.self.view_is c.seat.view_is
    (made-there {after = after} mine has c.in_ok-reply.reply c.in_ok-reply.ensures c.count.ensures)
