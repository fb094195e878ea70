use Rattle.std.proofs.Common.{arith}
use Rattle.nb_map.proofs.Home.{home-before}
use Rattle.nb_map.proofs.Made.{made-more, made-own, made-stays, made-within}
use Rattle.nb_map.proofs.Rungs.{read-further}
use Rattle.nb_map.proofs.steps.get.get_risen.Goals as goal

pub returns-in-Shows : goal.returns-in-Shows
returns-in-Shows c =
    let glanced = c.in-Shows.ensures.made in
    record {
      made = made-within 2 _ (omega arith) glanced;
      two_steps = λ home. omega (arith, glanced.grown.steps, glanced.few);
    }

pub get_from-requires : goal.get_from-requires
get_from-requires c =
    let glance = c.in-From.ensures.glance in
    record {
      at = read-further c.args.chain.now c.requires.at c.in-From.ensures.made glance.1 glance.2;
    }

pub returns-in-From : goal.returns-in-From
returns-in-From c =
    let chain = c.args.chain.now in
    let own = c.requires.at.own in
    let glanced = c.in-From.ensures.made in
    let rest = made-stays chain (made-own chain own glanced) c.get_from.ensures.made in
    record {
      made = made-more chain own glanced c.get_from.ensures.made;
      two_steps = λ home.
          absurd
          (c.in-From.ensures.glance.3 (home-before chain.shape _ _ rest c.args.top c.args.key
          c.requires.at.table home));
    }
