use Rattle.std.proofs.Common.{◌≡◌, ◌-◌, ◌≤◌, ℕ, length}
use Rattle.std.specs.Prelude.{slice_index}
use Rattle.nb_texts.proofs.tally.pad.Given as goal

abbrev pub invariant-loop-counts : goal.invariant-loop-counts
invariant-loop-counts l =
    (length l.counts.items ≤ l.many)
    × ((q : ℕ) → slice_index l.counts.items q ≡ slice_index l.fn.counts.items q)

abbrev pub decreases-loop-counts : goal.decreases-loop-counts
decreases-loop-counts l = l.many - length l.counts.items
