use Rattle.std.proofs.Common.{◌≤◌, length, vec_capacity}
use Rattle.std.specs.Vec.Iter.{into_iter_items}
use Rattle.nb_runner.proofs.OutcomeLemmas.{IsRetiring}
use Rattle.nb_runner.proofs.outcome.retire.Given as goal

abbrev pub invariant-loop-worker : goal.invariant-loop-worker
invariant-loop-worker l =
    (goal.iterator-loop-worker).can_next l.worker-iterator
    × (goal.iterator-loop-worker).is_finite l.worker-iterator
    × IsRetiring l.fn.workers.items (into_iter_items l.worker-iterator)
    l.seats.items l.answers.items
    × (length l.fn.workers.items ≤ vec_capacity l.seats)
    × (length l.fn.workers.items ≤ vec_capacity l.answers)
