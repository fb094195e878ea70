use Rattle.std.proofs.Common.{Err, Ok, refl}
use Rattle.std.proofs.lemmas.Result.{err_from_is_err_and}
use Rattle.nb_core.specs.declared.calls.Call.TheVariants as call
use Rattle.nb_map.specs.NamedCalls.{change_to}
use Rattle.nb_long.proofs.Called.{next-done, next-rest, still-seated}
use Rattle.nb_long.proofs.Comparing.{changed-then}
use Rattle.nb_long.proofs.Rounds.{idled-more, idled-none}
use Rattle.nb_long.proofs.map.parts.Parts.change_if.Goals as goal

pub loop-init : goal.loop-init
loop-init g c = record {
  can_next = tt;
  is_finite = tt;
  own = c.requires.own;
  idled = idled-none (call.Get c.args.key) c.requires.own;
  rest = record { map = refl; reserve = refl };
}

pub change_once-requires : goal.change_once-requires
change_once-requires g c =
    record { own = still-seated c.loop.invariant.rest c.loop.invariant.own }

pub returns-in_err-compared : goal.returns-in_err-compared
returns-in_err-compared g c =
    let p = err_from_is_err_and c.from_residual.result c.from_residual.ensures.1 in
    let inv = c.loop.invariant in
    let round = next-done inv.rest c.in_err-compared.ensures in
    rw (p.1, p.2) (record {
      done = changed-then g.V.PartialEq.eq c.args.value.now (change_to c.args.new.now) _
          c.requires.own
          inv.idled (Err c.in_err-compared.field-0.0) round.answered round.worked round.own;
      rest = next-rest inv.rest c.in_err-compared.ensures;
    })

pub returns-in-Some-2 : goal.returns-in-Some-2
returns-in-Some-2 g c =
    let inv = c.loop.invariant in
    let called = rw c.in-Some-2.is at c.in_ok-compared.ensures in
    let round = next-done inv.rest called in
    record {
      done = changed-then g.V.PartialEq.eq c.args.value.now (change_to c.args.new.now) _
          c.requires.own
          inv.idled (Ok c.in-Some-2.compared) round.answered round.worked round.own;
      rest = next-rest inv.rest called;
    }

pub loop-preserved : goal.loop-preserved
loop-preserved g c =
    let inv = c.loop.invariant in
    let called = rw c.in_default.is at c.in_ok-compared.ensures in
    let round = next-done inv.rest called in
    record {
      can_next = tt;
      is_finite = tt;
      own = round.own;
      idled = idled-more c.requires.own inv.idled round.answered round.worked;
      rest = next-rest inv.rest called;
    }
