use Rattle.std.proofs.Common.{[], ap, refl, subst}
use Rattle.nb_core.specs.Log.{log_of}
use Rattle.nb_lasting.specs.Guests.{GuestHasCalled, GuestOf}
use Rattle.nb_lasting.specs.Visits.{AreBack, HasGoneRound}
use Rattle.nb_lasting.specs.declared.hall.Hall.{Hall}
use Rattle.nb_lasting.specs.inside.Guests.{guest_of, hall_of}
use Rattle.nb_lasting.proofs.Visiting.{called_through}
use Rattle.nb_lasting.proofs.guest.Guest.renew.Goals as goal

pub returns : goal.returns
returns g c =
    let after : GuestOf = record {
      of = (guest_of c.self.inside).of;
      number = c.self.inside.lane;
      log = log_of c.renew_through.new.token.me.0.seen;
      account = c.renew_through.new.token.me.0.account;
      left = c.self.inside.left;
    } in
    record {
      called =
          subst (λ (guest : GuestOf). GuestHasCalled guest after []) c.self.view_is
          (called_through (guest_of c.self.inside) after c.self.inside.token.me.0
          c.renew_through.new.token.me.0 [] refl refl refl refl c.renew_through.ensures.called);
      round = subst (λ (guest : GuestOf). HasGoneRound guest.of (AreBack guest.of guest.number)
          guest.account after.account)
          c.self.view_is
          (subst (λ (hall : Hall). HasGoneRound (hall_of hall)
          (AreBack (hall_of hall) c.self.inside.lane)
          c.self.inside.token.me.0.account after.account) c.deref.ensures
          c.renew_through.ensures.round);
      left = ap (λ (guest : GuestOf). guest.left) c.self.view_is;
    }
