use Rattle.std.proofs.Common.{subst, sym}
use Rattle.nb_lasting.specs.Lasting.{HasSlots}
use Rattle.nb_lasting.proofs.Alone.{has-room, kept-alone, renewed-alone, too-many}
use Rattle.nb_lasting.proofs.present.Present.renew_for.Goals as goal

pub returns-in-Ok : goal.returns-in-Ok
returns-in-Ok c =
    let done = renewed-alone c.shape_for.result c.args.self.now.handle c.renew.new.self
    c.requires.alone c.shape_for.ensures.seats
    (has-room c.shape_for.result c.args.keys c.args.self.now.handle c.requires.room
    c.shape_for.ensures.slots)
    c.in-Ok.ensures.renewed c.known.ensures.own in
    record {
      alone = done.0;
      kept = done.1;
      fresh = done.2;
      slots = subst (HasSlots c.args.keys) (sym c.in-Ok.ensures.renewed.begun.made.shape)
          c.shape_for.ensures.slots;
      full = λ is. absurd cc;
    }

pub returns-in-Err-Full : goal.returns-in-Err-Full
returns-in-Err-Full c =
    let kept = kept-alone c.args.self.now.handle c.renew.new.self c.requires.alone
    c.in-Err-Full.ensures.kept in
    record {
      alone = kept.0;
      kept = kept.1;
      fresh = tt;
      slots = tt;
      full = λ is. too-many c.shape_for.result c.args.self.now.handle c.requires.alone
          (has-room c.shape_for.result c.args.keys c.args.self.now.handle c.requires.room
          c.shape_for.ensures.slots)
          (c.renew.ensures.full cc);
    }

pub returns-in-Err : goal.returns-in-Err
returns-in-Err c =
    let kept = kept-alone c.args.self.now.handle c.renew.new.self c.requires.alone
    c.in-Err.ensures.kept in
    record { alone = kept.0; kept = kept.1; fresh = tt; slots = tt; full = λ is. absurd cc }
