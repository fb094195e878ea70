use Rattle.std.proofs.Common.{take}
use Rattle.std.specs.Io.KnownBytes.{Appends}
use Rattle.nb_tally.specs.Printed.{text_of_counts}
use Rattle.nb_tally.proofs.printing.print_to.Given as goal

abbrev pub invariant-loop-count : goal.invariant-loop-count
invariant-loop-count g l =
    Appends (g.W.Write.contents l.fn.writer) (g.W.Write.contents l.writer)
    (text_of_counts (take l.count-index l.counts))
