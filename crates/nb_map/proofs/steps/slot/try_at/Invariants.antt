use Rattle.std.proofs.Common.{◌<◌, ◌≤◌}
use Rattle.nb_core.specs.States.{shown_by_value}
use Rattle.nb_map.proofs.Tried.{HasTried, tries_ahead}
use Rattle.nb_map.proofs.steps.slot.try_at.Given as goal

abbrev pub invariant-loop-number : goal.invariant-loop-number
invariant-loop-number g l = record {
  tried : HasTried l.chain.shape l.call l.fn.seat l.seat l.slot l.fn.tries l.tries l.from
      (shown_by_value l.from);
  some : 1 ≤ l.tries;
  looked : l.fn.seat.steps < l.seat.steps;
  serves : g.P.Pause.serves l.pause l.chain;
}

abbrev pub decreases-loop-number : goal.decreases-loop-number
decreases-loop-number g l = tries_ahead (shown_by_value l.from) l.tries
