use Rattle.std.proofs.Common.{◌∙◌, ◌∷◌, [], ap}
use Rattle.nb_core.specs.declared.calls.Call.TheVariants.{Write}
use Rattle.nb_lasting.specs.Guests.{GuestIsRefused, GuestOf, left_with}
use Rattle.nb_lasting.proofs.Visiting.{if-err, then-first, then-refused}
use Rattle.nb_lasting.proofs.Working.{counted-replied, worked-counted, worked-once}
use Rattle.nb_lasting.proofs.guest.Guest.put_if_match.Goals as goal

pub returns-in_err-reply-clause-refused : goal.returns-in_err-reply-clause-refused
returns-in_err-reply-clause-refused g c =
    let call = Write c.args.key c.args.want c.args.change in
    if-err c.from_residual.result c.in_err-reply.field-0.0
    (GuestIsRefused call c.args.self.now c.write.new.self) c.from_residual.ensures.1
    (then-refused call c.args.self.now c.renew_in_time.new.self c.write.new.self
    c.in_err-reply.field-0.0 c.renew_in_time.ensures.called c.in_err-reply.ensures.refused)

pub returns-in_err-reply-clause-worked : goal.returns-in_err-reply-clause-worked
returns-in_err-reply-clause-worked g c =
    worked-once (Write c.args.key c.args.want c.args.change) c.args.self.now
    c.renew_in_time.new.self c.write.new.self c.renew_in_time.ensures.called
    c.renew_in_time.ensures.same c.renew_in_time.ensures.due c.renew_in_time.ensures.left
    c.write.ensures.once c.write.ensures.left c.in_err-reply.ensures.refused.unmade

pub returns-clause-wrote : goal.returns-clause-wrote
returns-clause-wrote g c =
    let call = Write c.args.key c.args.want c.args.change in
    let reply = c.in_ok-reply.reply in
    let made = (call, reply) ∷ [] in
    counted-replied c.args.self.now c.write.new.self c.count.new.self
    (left_with reply c.write.new.self.left) made c.count.ensures
    (then-first c.args.self.now c.renew_in_time.new.self c.write.new.self made
    c.renew_in_time.ensures.called c.in_ok-reply.ensures.wrote)

pub returns-clause-worked : goal.returns-clause-worked
returns-clause-worked g c =
    worked-counted (Write c.args.key c.args.want c.args.change) c.args.self.now
    c.renew_in_time.new.self c.write.new.self c.count.new.self c.in_ok-reply.reply
    c.renew_in_time.ensures.called c.renew_in_time.ensures.same c.renew_in_time.ensures.due
    c.renew_in_time.ensures.left c.write.ensures.once c.write.ensures.left
    c.in_ok-reply.ensures.wrote c.count.ensures

pub returns-in_err-reply-clause-of : goal.returns-in_err-reply-clause-of
returns-in_err-reply-clause-of g c =
    c.in_err-reply.ensures.refused.unmade.of ∙ c.renew_in_time.ensures.called.of

pub returns-clause-of : goal.returns-clause-of
returns-clause-of g c =
    ap (λ (guest : GuestOf). guest.of) c.count.ensures
    ∙ c.in_ok-reply.ensures.wrote.of ∙ c.renew_in_time.ensures.called.of
