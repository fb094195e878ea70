use Rattle.std.proofs.Common.{ap, refl, subst}
use Rattle.nb_core.specs.declared.calls.Call.TheVariants.{Write}
use Rattle.nb_lasting.specs.inside.Guests.{HasWrittenHere}
use Rattle.nb_core.specs.Log.{log_of}
use Rattle.nb_lasting.specs.Guests.{GuestOf}
use Rattle.nb_lasting.specs.Tries.{HasTriedAlone}
use Rattle.nb_lasting.specs.inside.Guests.{guest_of}
use Rattle.nb_lasting.proofs.Visiting.{written-through}
use Rattle.nb_lasting.proofs.guest.Guest.write_here.Goals as goal

pub returns : goal.returns
returns g c =
    let after : GuestOf = record {
      of = (guest_of c.self.inside).of;
      number = c.self.inside.lane;
      log = log_of c.write_through.new.token.me.0.seen;
      account = c.write_through.new.token.me.0.account;
      left = c.self.inside.left;
    } in
    let call = Write c.args.key c.args.want.now c.args.change.now in
    record {
      wrote =
          subst (λ (guest : GuestOf). HasWrittenHere call guest after c.write_through.result)
          c.self.view_is
          (written-through call (guest_of c.self.inside) after c.self.inside.token.me.0
          c.write_through.new.token.me.0 c.write_through.result refl refl refl refl
          c.write_through.ensures.called);
      visited = subst (λ (guest : GuestOf).
          HasTriedAlone call guest.number guest.account after.account c.write_through.result)
          c.self.view_is c.write_through.ensures.visited;
      left = ap (λ (guest : GuestOf). guest.left) c.self.view_is;
    }
