use Rattle.std.proofs.Common.{◌≤◌, length, vec_capacity}
use Rattle.std.specs.Vec.Iter.{into_iter_items}
use Rattle.nb_runner.specs.Working.{phases_in}
use Rattle.nb_runner.proofs.OutcomeLemmas.{IsReadying}
use Rattle.nb_runner.proofs.outcome.ready.Given as goal

abbrev pub invariant-loop-seat : goal.invariant-loop-seat
invariant-loop-seat l =
    (goal.iterator-loop-seat).can_next l.seat-iterator
    × (goal.iterator-loop-seat).is_finite l.seat-iterator
    × IsReadying (phases_in l.phases) l.fn.seats.items (into_iter_items l.seat-iterator)
    l.workers.items
    × (length l.fn.seats.items ≤ vec_capacity l.workers)
