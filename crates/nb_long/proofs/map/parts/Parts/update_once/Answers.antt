use Rattle.std.proofs.Common.{subst}
use Rattle.std.proofs.lemmas.Result.{err_from_is_err_and}
use Rattle.nb_long.proofs.Called.{next-done, next-rest}
use Rattle.nb_long.proofs.Tries.{exchanged-so, unstored}
use Rattle.nb_long.specs.Typed.{LongMapOf}
use Rattle.nb_long.specs.Updating.{HasExchanged}
use Rattle.nb_long.proofs.map.parts.Parts.update_once.Goals as goal

pub returns-clause-ended : goal.returns-clause-ended
returns-clause-ended g c =
    let handle = g.M.Numbers.handle c.args.self.now.map.now in
    let m : LongMapOf = record {
      map = (handle c.args.caller.now).map;
      store = c.args.self.now.store.now;
    } in
    let got = c.in_ok-found.ensures in
    record {
      done =
          exchanged-so {m = m}
          (record {
            got = got.done;
            made = record {
              was = c.value_in.result;
              shows = c.value_in.ensures;
              stepped = c.new_of-value.ensures;
            };
          })
          (handle c.exchange_once.new.caller).seat c.in_ok-new.new c.in_ok-new.ensures.stored c.exchange_once.result
          (subst (λ found. HasExchanged m c.args.key found c.in_ok-new.new
          (handle c.get.new.caller).seat (handle c.exchange_once.new.caller).seat
          c.exchange_once.result) c.receipt_in.ensures (next-done got.rest c.exchange_once.ensures));
      rest = next-rest got.rest c.exchange_once.ensures;
    }

pub returns-in_err-new-clause-ended : goal.returns-in_err-new-clause-ended
returns-in_err-new-clause-ended g c =
    let got = c.in_ok-found.ensures in
    let p = err_from_is_err_and c.from_residual-in_err-new.result
    c.from_residual-in_err-new.ensures.1 in
    let back = c.in_err-new.ensures.refused in
    rw (p.1, p.2) (record {
      done =
          unstored
          (record {
            got = got.done;
            made = record {
              was = c.value_in.result;
              shows = c.value_in.ensures;
              stepped = c.new_of-value.ensures;
            };
          })
          back.1 c.in_err-new.field-0.0 back.2;
      rest = got.rest;
    })
