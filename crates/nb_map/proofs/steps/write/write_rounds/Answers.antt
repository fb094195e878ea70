use Rattle.std.proofs.Common.{subst, sym, arith}
use Rattle.nb_core.specs.declared.calls.Call.TheVariants as call
use Rattle.nb_map.proofs.Made.{made-quiet, made-within}
use Rattle.nb_map.proofs.Rounds.{rounds-end, rounds-more}
use Rattle.nb_map.proofs.Rungs.{at-stays}
use Rattle.nb_map.proofs.Straight.{at-there}
use Rattle.nb_map.specs.inside.Climbing.{IsAt}
use Rattle.nb_map.proofs.steps.write.write_rounds.Goals as goal

pub loop-init : goal.loop-init
loop-init g c =
    let write = call.Write c.args.key c.args.want c.args.change in
    let load = c.load_top-top.ensures.grows in
    record {
      can_next = tt;
      is_finite = tt;
      at = at-there c.args.chain.now c.load_top-top.result c.requires.own load
          c.load_top-top.ensures.found write;
      rounds = made-within 1 _ (omega arith) (made-quiet c.args.chain.now.shape write load);
    }

pub climb-requires-clause-at : goal.climb-requires-clause-at
climb-requires-clause-at g c =
    subst (IsAt c.args.chain.now (call.Write c.args.key c.args.want c.args.change) c.loop.seat)
    (sym c.at.ensures) c.loop.invariant.at

pub loop-preserved : goal.loop-preserved
loop-preserved g c =
    let round = c.in-Err-Contended.ensures in
    record {
      can_next = tt;
      is_finite = tt;
      at = at-stays c.args.chain.now c.loop.invariant.at round.made;
      rounds = rounds-more c.args.chain.now c.requires.own c.loop.invariant.rounds round.made
          round.spent (rw c.in-Err-Contended.field-0-is at round.refused).0;
    }

pub returns-in-Ok : goal.returns-in-Ok
returns-in-Ok g c =
    let round = c.in-Ok.ensures in
    record {
      made = rounds-end c.args.chain.now c.requires.own c.loop.invariant.rounds round.made
          round.spent;
      refused = tt;
    }

pub returns-in-Err-Full : goal.returns-in-Err-Full
returns-in-Err-Full g c =
    let round = c.in-Err-Full.ensures in
    record {
      made = rounds-end c.args.chain.now c.requires.own c.loop.invariant.rounds round.made
          round.spent;
      refused = (rw c.in-Err-Full.field-0-is at round.refused).0;
    }

pub returns-in-Err-ValueRange : goal.returns-in-Err-ValueRange
returns-in-Err-ValueRange g c =
    let round = c.in-Err-ValueRange.ensures in
    record {
      made = rounds-end c.args.chain.now c.requires.own c.loop.invariant.rounds round.made
          round.spent;
      refused = (rw c.in-Err-ValueRange.field-0-is at round.refused).0;
    }
