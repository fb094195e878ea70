use Rattle.std.proofs.Common.{◌≡◌, ◌++◌, length, map}
use Rattle.nb_texts.specs.Lines.{lines_in, text_of_lines}
use Rattle.nb_tally.specs.Fields.{field}
use Rattle.nb_tally.proofs.fields.put_fields.Given as goal

abbrev pub invariant-loop-rest : goal.invariant-loop-rest
invariant-loop-rest l =
    l.room.items ++ text_of_lines (map (field l.column) (lines_in l.rest))
    ≡ text_of_lines (map (field l.column) (lines_in l.block))

abbrev pub decreases-loop-rest : goal.decreases-loop-rest
decreases-loop-rest l = length l.rest
