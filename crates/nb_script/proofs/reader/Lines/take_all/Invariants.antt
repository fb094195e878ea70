use Rattle.nb_script.proofs.Taken.{HasTaken}
use Rattle.nb_script.proofs.reader.Lines.take_all.Given as goal

abbrev pub invariant-loop-byte : goal.invariant-loop-byte
invariant-loop-byte l = HasTaken l.fn.self l.self l.bytes l.byte-index
