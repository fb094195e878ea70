use Rattle.std.proofs.Common.{◌≡◌, ◌-◌, drop, take}
use Rattle.nb_texts.specs.Lines.{text_of_lines}
use Rattle.nb_texts.proofs.texts.Texts.text_from.Given as goal

abbrev pub invariant-loop-place : goal.invariant-loop-place
invariant-loop-place l =
    l.text.items
    ≡ text_of_lines (take (l.place - l.first) (drop l.first l.self))
