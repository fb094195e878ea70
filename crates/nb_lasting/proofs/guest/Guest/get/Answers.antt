use Rattle.std.proofs.Common.{◌∷◌, [], ap, refl, subst}
use Rattle.nb_core.specs.Log.{log_of, reply_at}
use Rattle.nb_core.specs.declared.calls.Call.TheVariants.{Get}
use Rattle.nb_lasting.specs.Guests.{GuestHasCalled, GuestHasRead, GuestOf}
use Rattle.nb_lasting.specs.inside.Guests.{guest_of}
use Rattle.nb_lasting.proofs.Visiting.{called_through}
use Rattle.nb_lasting.proofs.guest.Guest.get.Goals as goal

pub returns : goal.returns
returns g c =
    let after : GuestOf = record {
      of = (guest_of c.self.inside).of;
      number = c.self.inside.lane;
      log = log_of c.get_through.new.token.me.0.seen;
      account = c.get_through.new.token.me.0.account;
      left = c.self.inside.left;
    } in
    let made = (Get c.args.key, reply_at (Get c.args.key) c.get_through.result) ∷ [] in
    record {
      of = ap (λ (guest : GuestOf). guest.of) c.self.view_is;
      replied = subst (λ (guest : GuestOf). GuestHasCalled guest after made) c.self.view_is
          (called_through (guest_of c.self.inside) after c.self.inside.token.me.0
          c.get_through.new.token.me.0 made refl refl refl refl c.get_through.ensures.called);
      read = subst (λ (guest : GuestOf). GuestHasRead c.args.key guest after c.get_through.result)
          c.self.view_is (record { visited = c.get_through.ensures.visited; left = refl });
    }
