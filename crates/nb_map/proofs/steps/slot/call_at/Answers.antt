use Rattle.std.proofs.Common.{arith}
use Rattle.nb_map.proofs.Tried.{tried-above}
use Rattle.nb_map.proofs.Made.{made-more, made-within}
use Rattle.nb_map.proofs.Rungs.{slot-stays}
use Rattle.nb_map.proofs.Spent.{spent-later}
use Rattle.nb_map.proofs.steps.slot.call_at.Goals as goal

pub pass_slot-requires : goal.pass_slot-requires
pass_slot-requires g c =
    let here = slot-stays c.args.chain.now c.requires.at c.in-Copied.ensures.made in
    record {
      own = here.own;
      slot = here.slot.slot;
      primed = c.in-Copied.ensures.tried.0;
      held = c.in-Copied.ensures.tried.1;
    }

pub returns-in-Copied : goal.returns-in-Copied
returns-in-Copied g c =
    let chain = c.args.chain.now in
    let tried = c.in-Copied.ensures in
    let pass = c.pass_slot.ensures.made c.args.call.now in
    record {
      made = made-within _ _ (omega arith) (made-more chain c.requires.at.own tried.made pass);
      visit = (
        tried-above chain c.requires.at tried.made pass c.pass_slot.ensures.passed,
        tried.tried.2,
      );
      spent = spent-later tried.spent tried.made.grown pass.grown;
      serves = tried.serves;
    }
