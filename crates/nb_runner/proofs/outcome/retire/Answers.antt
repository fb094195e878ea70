use Rattle.std.proofs.Common.{arith, subst₂, sym}
use Rattle.nb_runner.proofs.OutcomeLemmas.{IsRetiring, retiring-left, retiring-more}
use Rattle.nb_runner.proofs.outcome.retire.Goals as goal

pub push_reserved-requires : goal.push_reserved-requires
push_reserved-requires c =
    let below = retiring-left _ _ _ _ _ _ c.loop-worker.invariant.2 c.in-Some.ensures.steps.0 in
    omega (arith, c.loop-worker.seats.ok, c.loop-worker.invariant.3, below.0)

pub push_reserved-requires-in-loop-worker : goal.push_reserved-requires-in-loop-worker
push_reserved-requires-in-loop-worker c =
    let below = retiring-left _ _ _ _ _ _ c.loop-worker.invariant.2 c.in-Some.ensures.steps.0 in
    omega (arith, c.loop-worker.answers.ok, c.loop-worker.invariant.4, below.1)

pub loop-worker-preserved : goal.loop-worker-preserved
loop-worker-preserved c = (
  tt,
  tt,
  subst₂ (IsRetiring _ _) (sym c.push_reserved.ensures.items)
      (sym c.push_reserved-in-loop-worker.ensures.items)
      (retiring-more _ _ _ _ _ _ c.loop-worker.invariant.2 c.in-Some.ensures.steps.0),
  omega (arith, c.loop-worker.invariant.3, c.push_reserved.ensures.capacity),
  omega (arith, c.loop-worker.invariant.4, c.push_reserved-in-loop-worker.ensures.capacity),
)
