use Rattle.std.proofs.Common.{◌≡◌, ◌==◌, ◌≤◌, take}
use Rattle.std.specs.Prelude.{count_by}
use Rattle.nb_texts.proofs.source.newlines_in.Given as goal

abbrev pub invariant-loop-byte : goal.invariant-loop-byte
invariant-loop-byte l =
    (l.newlines ≡ count_by (λ byte. byte == 10) (take l.byte-index l.text))
    × (l.newlines ≤ l.byte-index)
