use Rattle.std.proofs.Common.{[], ap, refl, subst}
use Rattle.nb_core.specs.Log.{log_of}
use Rattle.nb_lasting.specs.Guests.{GuestHasCalled, GuestOf, HasLookedBy}
use Rattle.nb_lasting.specs.inside.Guests.{guest_of}
use Rattle.nb_lasting.proofs.Visiting.{called_through}
use Rattle.nb_lasting.proofs.guest.Guest.look.Goals as goal

pub returns : goal.returns
returns g c =
    let after : GuestOf = record {
      of = (guest_of c.self.inside).of;
      number = c.self.inside.lane;
      log = log_of c.look_through.new.token.me.0.seen;
      account = c.look_through.new.token.me.0.account;
      left = c.self.inside.left;
    } in
    record {
      called =
          subst (λ (guest : GuestOf). GuestHasCalled guest after []) c.self.view_is
          (called_through (guest_of c.self.inside) after c.self.inside.token.me.0
          c.look_through.new.token.me.0 [] refl refl refl refl c.look_through.ensures.called);
      looked = subst (λ (guest : GuestOf). HasLookedBy guest after.account c.look_through.result)
          c.self.view_is c.look_through.ensures.visited;
      left = ap (λ (guest : GuestOf). guest.left) c.self.view_is;
    }
