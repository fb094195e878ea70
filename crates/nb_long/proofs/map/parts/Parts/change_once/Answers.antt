use Rattle.std.proofs.Common.{◌∙◌, Ok, Some, ap, refl, subst, sym, true}
use Rattle.nb_map.specs.Promises.{Refused, Replied}
use Rattle.nb_map.specs.declared.faults.PutFault.TheVariants as put_fault
use Rattle.nb_long.proofs.Called.{next-done, next-rest}
use Rattle.nb_long.proofs.Comparing.{loses, matches, never-full, round-of}
use Rattle.nb_long.specs.Promises.{HasMadeRound}
use Rattle.nb_long.specs.Typed.{LongMapOf}
use Rattle.nb_long.proofs.map.parts.Parts.change_once.Goals as goal

pub returns-in-Ok : goal.returns-in-Ok
returns-in-Ok g c =
    let handle = g.M.Numbers.handle c.args.self.now.map.now in
    let m : LongMapOf = record {
      map = (handle c.args.caller.now).map;
      store = c.args.self.now.store.now;
    } in
    let got = rw c.in-Some.is at c.in_ok-found.ensures in
    record {
      done = subst (λ found. HasMadeRound g.V.PartialEq.eq m c.args.key c.args.value.now
          c.args.new (handle c.args.caller.now).seat
          (handle c.compare_exchange.new.caller).seat
          (Ok (Some (record { found = Some found; done = true })))) (sym c.into_receipt.ensures)
          (matches c.in-Some.found c.in-Ok.reply
          (round-of c.requires.own got.done c.number-number.ensures
          (next-done got.rest c.in-Ok.ensures)) got.done.shown.0
          (ap (λ v. g.V.PartialEq.eq v c.args.value.now) (sym c.value.ensures)
          ∙ sym c.eq-equal.ensures ∙ c.if-not-equal.false) c.if-reply.true);
      rest = next-rest got.rest c.in-Ok.ensures;
    }

pub returns-in-Ok-2 : goal.returns-in-Ok-2
returns-in-Ok-2 g c =
    let got = rw c.in-Some.is at c.in_ok-found.ensures in
    record {
      done = loses (Replied c.in-Ok.reply)
          (round-of c.requires.own got.done c.number-number.ensures
          (next-done got.rest c.in-Ok.ensures)) c.if-reply.false;
      rest = next-rest got.rest c.in-Ok.ensures;
    }

pub returns-in-Err-Contended : goal.returns-in-Err-Contended
returns-in-Err-Contended g c =
    let got = rw c.in-Some.is at c.in_ok-found.ensures in
    let late = rw c.in-Err-Contended.field-0-is at c.in-Err-Contended.ensures in
    record {
      done = loses (Refused put_fault.Contended)
          (round-of c.requires.own got.done c.number-number.ensures (next-done got.rest late)) refl;
      rest = next-rest got.rest late;
    }

pub unreachable-requires : goal.unreachable-requires
unreachable-requires g c =
    never-full c.args.new (rw c.in-Err-Full.field-0-is at c.in-Err-Full.ensures).done
