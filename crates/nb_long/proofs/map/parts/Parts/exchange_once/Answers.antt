use Rattle.std.proofs.Common.{refl, subst₂}
use Rattle.nb_map.specs.NamedCalls.{exchange_of}
use Rattle.nb_map.specs.Progress.{Tries}
use Rattle.nb_map.specs.Promises.{HasWritten, Replied}
use Rattle.nb_long.proofs.Rounds.{exchange-won}
use Rattle.nb_long.proofs.map.parts.Parts.exchange_once.Goals as goal

pub returns-in-Ok : goal.returns-in-Ok
returns-in-Ok g c =
    let handle = g.M.Numbers.handle c.args.self.now.map.now in
    let first = handle c.args.caller.now in
    let last = handle c.compare_exchange.new.caller in
    record {
      done = (
        refl,
        exchange-won _ (subst₂ (λ was number. HasWritten first.map
            (exchange_of c.args.key was number) first.seat last.seat (Tries 1) (Replied c.in-Ok.reply))
            c.number_in.ensures c.number_in-2.ensures c.in-Ok.ensures.done) c.if-reply.true,
      );
      rest = c.in-Ok.ensures.rest;
    }
