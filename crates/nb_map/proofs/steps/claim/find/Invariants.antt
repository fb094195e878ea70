use Rattle.std.proofs.Common.{◌≡◌, ◌-◌}
use Rattle.nb_core.specs.Plans.{size_of}
use Rattle.nb_map.proofs.Claimed.{HasProbed}
use Rattle.nb_map.specs.inside.Climbing.{IsAt}
use Rattle.nb_map.proofs.steps.claim.find.Given as goal

abbrev pub invariant-loop-i : goal.invariant-loop-i
invariant-loop-i l = record {
  same : l.rung.g ≡ l.fn.rung.g;
  walked : HasProbed l.chain.shape l.call l.fn.seat l.seat l.rung.g l.rung.from l.rung.below;
  at : IsAt l.chain l.call l.seat l.rung;
}

abbrev pub decreases-loop-i : goal.decreases-loop-i
decreases-loop-i l = size_of l.chain.shape l.rung.g - l.rung.from
