use Rattle.std.proofs.Common.{◌∙◌, [], ap, subst}
use Rattle.nb_lasting.specs.Guests.{GuestHasCalled, GuestOf}
use Rattle.nb_lasting.proofs.Visiting.{then-first}
use Rattle.nb_lasting.proofs.Working.{looked-more, looked-only}
use Rattle.nb_lasting.proofs.guest.Guest.renew_in_time.Goals as goal

pub returns-then-should_renew-clause-called : goal.returns-then-should_renew-clause-called
returns-then-should_renew-clause-called g c =
    let looked = subst (λ (guest : GuestOf). GuestHasCalled guest c.look-found.new.self [])
    c.set_left.ensures c.look-found.ensures.called in
    then-first c.args.self.now c.look-found.new.self c.renew.new.self []
    (record { of = looked.of; number = looked.number; log = looked.log }) c.renew.ensures.called

pub returns-then-should_renew-clause-due : goal.returns-then-should_renew-clause-due
returns-then-should_renew-clause-due g c none =
    looked-more c.args.self.now c.set_left.new.self c.look-found.new.self c.renew.new.self
    c.look-found.result (ap (λ (guest : GuestOf). guest.number) c.set_left.ensures)
    (ap (λ (guest : GuestOf). guest.account) c.set_left.ensures) c.look-found.ensures.looked
    (c.should_renew.ensures.0 c.if-should_renew.true)
    (c.look-found.ensures.called.of ∙ ap (λ (guest : GuestOf). guest.of) c.set_left.ensures)
    (c.look-found.ensures.called.number ∙ ap (λ (guest : GuestOf). guest.number) c.set_left.ensures)
    c.renew.ensures.round

pub returns-else-should_renew-clause-due : goal.returns-else-should_renew-clause-due
returns-else-should_renew-clause-due g c none =
    looked-only c.args.self.now c.set_left.new.self c.look-found.new.self c.look-found.result
    (ap (λ (guest : GuestOf). guest.number) c.set_left.ensures)
    (ap (λ (guest : GuestOf). guest.account) c.set_left.ensures) c.look-found.ensures.looked
