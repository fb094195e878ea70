use Rattle.std.proofs.Common.{ap, refl, subst}
use Rattle.nb_core.specs.Log.{log_of}
use Rattle.nb_core.specs.declared.calls.Call.TheVariants.{Write}
use Rattle.nb_lasting.specs.Guests.{GuestOf}
use Rattle.nb_lasting.specs.Holding.{HasTriedOnAs}
use Rattle.nb_lasting.specs.declared.hall.Hall.{Hall}
use Rattle.nb_lasting.specs.inside.Guests.{GuestHasTried, guest_of, hall_of}
use Rattle.nb_lasting.proofs.Visiting.{tried-through}
use Rattle.nb_lasting.proofs.guest.Guest.write_or_renew.Goals as goal

pub returns : goal.returns
returns g c =
    let after : GuestOf = record {
      of = (guest_of c.self.inside).of;
      number = c.self.inside.lane;
      log = log_of c.write_or_renew.new.token.me.0.seen;
      account = c.write_or_renew.new.token.me.0.account;
      left = c.self.inside.left;
    } in
    let call = Write c.args.key c.args.want.now c.args.change.now in
    record {
      tried =
          subst (λ (guest : GuestOf). GuestHasTried call guest after c.write_or_renew.result)
          c.self.view_is
          (tried-through call (guest_of c.self.inside) after c.self.inside.token.me.0
          c.write_or_renew.new.token.me.0 c.write_or_renew.result refl refl refl refl
          c.write_or_renew.ensures.tried);
      on = subst (λ (guest : GuestOf). HasTriedOnAs call guest.number guest.of guest.account
          after.account c.write_or_renew.result) c.self.view_is
          (subst (λ (hall : Hall). HasTriedOnAs call c.self.inside.lane (hall_of hall)
          c.self.inside.token.me.0.account after.account c.write_or_renew.result)
          c.deref.ensures c.write_or_renew.ensures.on);
      left = ap (λ (guest : GuestOf). guest.left) c.self.view_is;
    }
