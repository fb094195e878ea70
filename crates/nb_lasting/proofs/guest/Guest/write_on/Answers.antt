use Rattle.std.proofs.Common.{◌∙◌, ◌∷◌, [], Ok, refl, subst}
use Rattle.nb_core.specs.declared.calls.Call.TheVariants.{Write}
use Rattle.nb_lasting.specs.Guests.{GuestIsRefused}
use Rattle.nb_lasting.specs.inside.Guests.{GuestHasTried, HasTriedFirst}
use Rattle.nb_lasting.proofs.Visiting.{if-err, none-called, then-first, then-refused}
use Rattle.nb_lasting.proofs.Working.{then-once}
use Rattle.nb_lasting.proofs.guest.Guest.write_on.Goals as goal

pub returns-in_err-reply-clause-refused : goal.returns-in_err-reply-clause-refused
returns-in_err-reply-clause-refused g c =
    let call = Write c.args.key c.args.want.now c.args.change.now in
    if-err c.from_residual.result c.in_err-reply.field-0.0
    (GuestIsRefused call c.args.self.now c.try_write.new.self) c.from_residual.ensures.1
    (then-refused call c.args.self.now c.loop.self c.try_write.new.self c.in_err-reply.field-0.0
    c.loop.invariant.2 c.in_err-reply.ensures.tried)

pub returns-in_err-reply-clause-once : goal.returns-in_err-reply-clause-once
returns-in_err-reply-clause-once g c =
    c.loop.invariant.3 c.try_write.new.self c.in_err-reply.ensures.first

pub returns-in-Some-2-clause-wrote : goal.returns-in-Some-2-clause-wrote
returns-in-Some-2-clause-wrote g c =
    let call = Write c.args.key c.args.want.now c.args.change.now in
    then-first c.args.self.now c.loop.self c.try_write.new.self ((call, c.in-Some-2.reply) ∷ [])
    c.loop.invariant.2
    (subst (λ reply. GuestHasTried call c.loop.self c.try_write.new.self (Ok reply)) c.in-Some-2.is
    c.in_ok-reply.ensures.tried)

pub returns-in-Some-2-clause-once : goal.returns-in-Some-2-clause-once
returns-in-Some-2-clause-once g c =
    let call = Write c.args.key c.args.want.now c.args.change.now in
    c.loop.invariant.3 c.try_write.new.self
    (subst (λ reply. HasTriedFirst call c.loop.self c.try_write.new.self (Ok reply)) c.in-Some-2.is
    c.in_ok-reply.ensures.first)

pub loop-init : goal.loop-init
loop-init g c = (
  tt,
  tt,
  none-called c.args.self.now c.known.ensures,
  λ last once. once,
  refl,
)

pub loop-preserved : goal.loop-preserved
loop-preserved g c =
    let call = Write c.args.key c.args.want.now c.args.change.now in
    let none = subst (λ reply. GuestHasTried call c.loop.self c.try_write.new.self
    (Ok reply)) c.in_default.is c.in_ok-reply.ensures.tried in (
      tt,
      tt,
      then-first c.args.self.now c.loop.self c.try_write.new.self [] c.loop.invariant.2 none,
      λ last once. c.loop.invariant.3 last
          (then-once call c.loop.self c.try_write.new.self last
          (subst (λ reply. HasTriedFirst call c.loop.self c.try_write.new.self
          (Ok reply)) c.in_default.is c.in_ok-reply.ensures.first) none once),
      c.try_write.ensures.left ∙ c.loop.invariant.4,
    )
