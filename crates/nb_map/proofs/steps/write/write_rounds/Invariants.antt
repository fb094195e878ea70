use Rattle.std.proofs.Common.{◌+◌, []}
use Rattle.nb_map.specs.Calling.{HasMade}
use Rattle.nb_map.specs.Progress.{passed_since}
use Rattle.nb_map.specs.Steps.{lost_steps}
use Rattle.nb_map.specs.inside.Climbing.{IsAt, rung_at}
use Rattle.nb_map.proofs.steps.write.write_rounds.Given as goal

abbrev pub invariant-loop : goal.invariant-loop
invariant-loop g l = record {
  can_next : (goal.iterator-loop g).can_next l.iterator';
  is_finite : (goal.iterator-loop g).is_finite l.iterator';
  at : IsAt l.chain l.call l.seat (rung_at l.top);
  rounds : HasMade l.chain.shape l.call l.fn.seat l.seat []
      (1 + lost_steps l.chain.shape (passed_since l.call l.fn.seat l.seat));
}
