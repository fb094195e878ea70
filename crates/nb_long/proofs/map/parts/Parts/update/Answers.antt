use Rattle.std.proofs.Common.{Err, Ok, refl}
use Rattle.std.proofs.lemmas.Result.{err_from_is_err_and}
use Rattle.nb_long.proofs.Called.{next-done, next-rest, seated-before, still-seated}
use Rattle.nb_long.proofs.Tries.{come-end, come-more, come-none}
use Rattle.nb_long.proofs.map.parts.Parts.update.Goals as goal

pub loop-init : goal.loop-init
loop-init g c = record {
  can_next = tt;
  is_finite = tt;
  callable = c.requires.callable;
  come = come-none c.args.new_of c.requires.own;
  rest = record { map = refl; reserve = refl };
}

pub update_once-requires : goal.update_once-requires
update_once-requires g c = record {
  own = still-seated c.loop.invariant.rest c.loop.invariant.come.own;
  callable = c.loop.invariant.callable;
}

pub returns-in_err-updated : goal.returns-in_err-updated
returns-in_err-updated g c =
    let p = err_from_is_err_and c.from_residual.result c.from_residual.ensures.1 in
    let inv = c.loop.invariant in
    let ended = c.in_err-updated.ensures in
    let rest = next-rest inv.rest ended.ended in
    rw (p.1, p.2) (record {
      done = come-end c.requires.own inv.come c.update_once.new.new_of
          (seated-before rest ended.own) (Err c.in_err-updated.field-0.0)
          (next-done inv.rest ended.ended);
      rest = rest;
    })

pub returns-in-Some-2 : goal.returns-in-Some-2
returns-in-Some-2 g c =
    let inv = c.loop.invariant in
    let ended = rw c.in-Some-2.is at c.in_ok-updated.ensures in
    let rest = next-rest inv.rest ended.ended in
    record {
      done = come-end c.requires.own inv.come c.update_once.new.new_of
          (seated-before rest ended.own) (Ok c.in-Some-2.updated)
          (next-done inv.rest ended.ended);
      rest = rest;
    }

pub loop-preserved : goal.loop-preserved
loop-preserved g c =
    let inv = c.loop.invariant in
    let ended = rw c.in_default.is at c.in_ok-updated.ensures in
    let lost = next-done inv.rest ended.ended in
    record {
      can_next = tt;
      is_finite = tt;
      callable = ended.callable;
      come = come-more c.requires.own inv.come {found = lost.0} {new = lost.1} {outcome = lost.2}
          lost.3 lost.4;
      rest = next-rest inv.rest ended.ended;
    }
