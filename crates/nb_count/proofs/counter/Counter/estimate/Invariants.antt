use Rattle.std.proofs.Common.{◌≡◌}
use Rattle.nb_count.specs.Counts.{with_looks}
use Rattle.nb_count.proofs.counter.Counter.estimate.Given as goal

abbrev pub invariant-loop-stripe : goal.invariant-loop-stripe
invariant-loop-stripe l = l.seat ≡ with_looks l.stripe l.initial.seat
