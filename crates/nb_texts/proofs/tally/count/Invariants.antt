use Rattle.std.proofs.Common.{◌≡◌, ◌+◌, ◌==◌, ◌<◌, ℕ, length, take}
use Rattle.std.specs.Prelude.{count_by, slice_index}
use Rattle.nb_texts.proofs.tally.count.Given as goal

abbrev pub invariant-loop-place : goal.invariant-loop-place
invariant-loop-place l =
    (length l.counts.items ≡ length l.fn.counts.items)
    × ((q : ℕ) → q < length l.counts.items
    → slice_index l.counts.items q
    ≡ slice_index l.fn.counts.items q + count_by (λ place. place == q) (take l.place-index l.places))
