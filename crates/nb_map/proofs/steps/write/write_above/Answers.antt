use Rattle.std.proofs.Common.{◌-◌, min, subst, sym, arith}
use Rattle.std.proofs.lemmas.Result.{IfErr-weaker}
use Rattle.nb_map.proofs.AtHome.{lost-few}
use Rattle.nb_map.proofs.Made.{made-none, made-quiet, made-within}
use Rattle.nb_map.proofs.Searched.{made-then}
use Rattle.nb_map.proofs.Spent.{just-longer, passed-sum}
use Rattle.nb_map.proofs.Straight.{at-there}
use Rattle.nb_map.specs.Progress.{Tries, passed_since}
use Rattle.nb_map.specs.inside.Climbing.{IsAt}
use Rattle.nb_map.proofs.steps.write.write_above.Goals as goal

pub returns-then-tries-eq0-clause-climbed : goal.returns-then-tries-eq0-clause-climbed
returns-then-tries-eq0-clause-climbed g c = record {
  made = made-within 0 _ (omega arith)
      (made-none c.args.chain.now c.args.call.now c.args.seat.now c.requires.own);
  refused = omega (arith, c.if-tries-eq0.true);
}

pub climb-requires-clause-at : goal.climb-requires-clause-at
climb-requires-clause-at g c =
    subst (IsAt c.args.chain.now c.args.call.now c.load_top-top.new.seat) (sym c.at.ensures)
    (at-there c.args.chain.now c.load_top-top.result c.requires.own c.load_top-top.ensures.grows
    c.load_top-top.ensures.found c.args.call.now)

pub returns-clause-climbed : goal.returns-clause-climbed
returns-clause-climbed g c =
    let p = c.args.chain.now.shape in
    let call = c.args.call.now in
    let load = made-quiet p call c.load_top-top.ensures.grows in
    let climb = c.climb.ensures in
    let passed = passed_since call c.args.seat.now c.climb.new.seat in
    record {
      made = made-within _ _
          (omega (
            arith,
            lost-few p (c.args.tries - c.climb.new.tries) (min c.args.tries passed)
                (omega (arith, climb.spent.lost, passed-sum call load.grown climb.made.grown)),
          ))
          (made-then c.requires.own load climb.made);
      refused = IfErr-weaker c.climb.result _ _
          (λ fault refused.
          just-longer p call (Tries c.args.tries) (Tries c.args.tries) load.grown climb.made.grown
          (λ all. omega (arith, all)) fault refused.0) climb.refused;
    }
