use Rattle.std.proofs.Common.{arith, rules}
use Rattle.nb_map.proofs.Climbed.{visit-here, visit-longer, visited}
use Rattle.nb_map.proofs.Made.{made-within}
use Rattle.nb_map.proofs.Rungs.{at-slot, at-stays}
use Rattle.nb_map.proofs.Spent.{spent-none, spent-sooner}
use Rattle.nb_map.proofs.steps.climb.visit.Goals as goal

pub call_at-requires-clause-at : goal.call_at-requires-clause-at
call_at-requires-clause-at g c =
    at-slot c.args.chain.now c.in-Ok.i c.value_place-value.result (search rules)
    (at-stays c.args.chain.now c.requires.at c.in-Ok.ensures.made) c.in-Ok.ensures.found

pub returns-in-Ok-clause-made : goal.returns-in-Ok-clause-made
returns-in-Ok-clause-made g c =
    visited c.args.rung.g _ c.call_at.result c.requires.at.own c.in-Ok.ensures.made
    c.call_at.ensures.made

pub returns-in-Ok-clause-visit : goal.returns-in-Ok-clause-visit
returns-in-Ok-clause-visit g c =
    visit-longer c.args.chain.now.shape c.args.call.now c.args.rung.g c.args.tries.now
    c.call_at.new.tries c.in-Ok.ensures.made.grown
    c.call_at.ensures.made.grown c.call_at.result c.call_at.ensures.visit

pub returns-in-Ok-clause-spent : goal.returns-in-Ok-clause-spent
returns-in-Ok-clause-spent g c =
    spent-sooner c.in-Ok.ensures.made.grown c.call_at.ensures.made.grown c.call_at.ensures.spent

pub returns-in-Err-clause-made : goal.returns-in-Err-clause-made
returns-in-Err-clause-made g c = made-within _ _ (omega arith) c.in-Err.ensures.made

pub returns-in-Err-clause-visit : goal.returns-in-Err-clause-visit
returns-in-Err-clause-visit g c =
    visit-here c.args.chain.now.shape c.args.call.now c.args.seat.now c.find.new.seat
    c.args.rung.g c.args.tries.now c.requires.some c.in-Err.visit c.in-Err.ensures.found

pub returns-in-Err-clause-spent : goal.returns-in-Err-clause-spent
returns-in-Err-clause-spent g c =
    spent-none c.args.call.now c.args.seat.now c.find.new.seat c.args.tries.now
