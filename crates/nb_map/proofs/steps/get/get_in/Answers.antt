use Rattle.std.proofs.Common.{subst, sym, arith}
use Rattle.nb_core.specs.declared.calls.Call.TheVariants as call
use Rattle.nb_table.specs.Chains.{seen_by}
use Rattle.nb_map.specs.Progress.{IsAtHome}
use Rattle.nb_map.specs.Steps.{get_steps}
use Rattle.nb_map.proofs.Bounds.{climb-bound}
use Rattle.nb_map.proofs.Home.{home-before}
use Rattle.nb_map.proofs.Made.{made-more, made-own, made-stays, made-within}
use Rattle.nb_map.proofs.Rungs.{at-path, read-further}
use Rattle.nb_map.proofs.Straight.{at-known}
use Rattle.nb_map.proofs.steps.get.get_in.Goals as goal

pub glance_in-requires : goal.glance_in-requires
glance_in-requires c =
    let at = at-known c.args.chain.now c.known_top-known.result c.requires.own
    c.known_top-known.ensures (call.Get c.args.key) in
    record { at = at-path c.args.chain.now (call.Get c.args.key) _ _ at.own at.reached }

pub returns-in-Shows : goal.returns-in-Shows
returns-in-Shows c =
    let p = c.args.chain.now.shape in
    let at = at-known c.args.chain.now c.known_top-known.result c.requires.own
    c.known_top-known.ensures (call.Get c.args.key) in
    let bound = climb-bound p c.requires.own.plan c.known_top-known.result at.table in
    let glanced = c.in-Shows.ensures.made in
    record {
      made = made-within 2 (get_steps p) (omega (arith, bound)) glanced;
      short = record {
        two_steps = λ home. omega (arith, glanced.grown.steps, glanced.few);
        five_steps = λ home. omega (arith, glanced.grown.steps, glanced.few);
      };
    }

pub get_on-requires : goal.get_on-requires
get_on-requires c =
    let chain = c.args.chain.now in
    let glance = c.in-From.ensures.glance in
    let get = call.Get c.args.key in
    let at = at-known chain c.known_top-known.result c.requires.own c.known_top-known.ensures get in
    record {
      at = read-further chain (at-path chain get _ _ at.own at.reached) c.in-From.ensures.made
          glance.1 glance.2;
      away = glance.3;
    }

pub returns-in-From : goal.returns-in-From
returns-in-From c =
    let chain = c.args.chain.now in
    let p = chain.shape in
    let known = c.known_top-known.result in
    let at = at-known chain known c.requires.own c.known_top-known.ensures (call.Get c.args.key) in
    let bound = climb-bound p c.requires.own.plan known at.table in
    let glanced = c.in-From.ensures.made in
    let first = made-stays chain at.own glanced in
    let second = made-stays chain (made-own chain at.own glanced) c.get_on.ensures.made in
    record {
      made = made-within _ (get_steps p) (omega (arith, bound))
          (made-more chain c.requires.own glanced c.get_on.ensures.made);
      short = record {
        two_steps = λ home.
            absurd
            (c.in-From.ensures.glance.3 (home-before p _ _ second known c.args.key at.table
            (subst (λ g. IsAtHome p (seen_by p c.get_on.new.seat) g c.args.key)
            (sym c.known_top-known.ensures) home)));
        five_steps = λ home.
            omega (
              arith,
              glanced.grown.steps,
              glanced.few,
              c.get_on.ensures.three_steps (omega (arith, home.0, first.top, second.top), home.1),
            );
      };
    }
