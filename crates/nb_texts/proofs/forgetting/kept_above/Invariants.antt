use Rattle.std.proofs.Common.{◌≡◌, ℕ, List, map, take}
use Rattle.std.specs.List.{filter}
use Rattle.std.specs.Prelude.{nat_lt}
use Rattle.nb_texts.specs.Lines.{text_of_lines}
use Rattle.nb_texts.proofs.forgetting.kept_above.Given as goal

abbrev pub invariant-loop-place : goal.invariant-loop-place
invariant-loop-place l =
    (times : List ℕ → ℕ) → l.tally.counts.items ≡ map times l.tally.catalog.texts
    → (l.kept.text.items
    ≡ text_of_lines (filter (λ line. nat_lt l.cut (times line)) (take l.place l.tally.catalog.texts)))
    × (l.kept.counts.items
    ≡ map times (filter (λ line. nat_lt l.cut (times line)) (take l.place l.tally.catalog.texts)))
