use Rattle.std.proofs.Common.{◌-◌}
use Rattle.nb_core.specs.Plans.{generations_of}
use Rattle.nb_map.proofs.Climbed.{HasClimbedTo}
use Rattle.nb_map.proofs.steps.climb.climb.Given as goal

abbrev pub invariant-loop-reply : goal.invariant-loop-reply
invariant-loop-reply g l = record {
  climbed : HasClimbedTo l.chain l.call l.fn.seat l.seat l.rung l.fn.tries l.tries;
  serves : g.P.Pause.serves l.pause l.chain;
}

abbrev pub decreases-loop-reply : goal.decreases-loop-reply
decreases-loop-reply g l = generations_of l.chain.shape - l.rung.g
