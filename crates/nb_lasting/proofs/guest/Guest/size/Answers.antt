use Rattle.std.proofs.Common.{[], refl, subst}
use Rattle.std.specs.Prelude.{IfOk}
use Rattle.nb_core.specs.Log.{log_of}
use Rattle.nb_lasting.specs.Guests.{GuestHasCalled, GuestOf}
use Rattle.nb_lasting.specs.Visits.{AreBackSeen, HasCountedByAll, HasGoneRound}
use Rattle.nb_lasting.specs.declared.hall.Hall.{Hall}
use Rattle.nb_lasting.specs.inside.Guests.{guest_of, hall_of}
use Rattle.nb_lasting.proofs.Visiting.{called_through}
use Rattle.nb_lasting.proofs.guest.Guest.size.Goals as goal

pub returns-clause-called : goal.returns-clause-called
returns-clause-called g c =
    let after : GuestOf = record {
      of = (guest_of c.self.inside).of;
      number = c.self.inside.lane;
      log = log_of c.count_through.new.token.me.0.seen;
      account = c.count_through.new.token.me.0.account;
      left = c.self.inside.left;
    } in
    subst (λ (guest : GuestOf). GuestHasCalled guest after []) c.self.view_is
    (called_through (guest_of c.self.inside) after c.self.inside.token.me.0
    c.count_through.new.token.me.0 [] refl refl refl refl c.count_through.ensures.called)

pub returns-clause-round : goal.returns-clause-round
returns-clause-round g c =
    let new = c.count_through.new.token.me.0.account in
    subst (λ (guest : GuestOf). HasGoneRound guest.of (AreBackSeen guest.number) guest.account new) c.self.view_is
    (subst (λ (hall : Hall). HasGoneRound (hall_of hall) (AreBackSeen c.self.inside.lane)
    c.self.inside.token.me.0.account new) c.deref.ensures c.count_through.ensures.round)

pub returns-clause-counted : goal.returns-clause-counted
returns-clause-counted g c =
    let new = c.count_through.new.token.me.0.account in
    let result = c.count_through.result in
    subst (λ (guest : GuestOf). IfOk result (HasCountedByAll guest.number guest.of guest.account new))
    c.self.view_is
    (subst (λ (hall : Hall). IfOk result (HasCountedByAll c.self.inside.lane (hall_of hall)
    c.self.inside.token.me.0.account new)) c.deref.ensures c.count_through.ensures.counted)
