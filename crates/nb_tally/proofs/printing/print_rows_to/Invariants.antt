use Rattle.std.proofs.Common.{take}
use Rattle.std.specs.Io.KnownBytes.{Appends}
use Rattle.nb_tally.specs.Printed.{text_of_rows}
use Rattle.nb_tally.proofs.printing.print_rows_to.Given as goal

abbrev pub invariant-loop-row : goal.invariant-loop-row
invariant-loop-row g l =
    Appends (g.W.Write.contents l.fn.writer) (g.W.Write.contents l.writer)
    (text_of_rows l.missed (take l.row-index l.rows))
