use Rattle.std.proofs.Common.{false, ◌≡◌, ◌++◌, length, Option}
use Rattle.std.specs.Io.KnownBytes.{Appends}
use Rattle.nb_script.specs.Script.{Bytes}
use Rattle.nb_script.proofs.streams.write_all.Given as goal

-- what was written, and what is left to write, are all of the bytes
pub record HasWritten (bytes rest : Bytes) (old new : Option Bytes) : Type 0 where
  pub written : Bytes
  pub all : written ++ rest ≡ bytes
  pub appended : Appends old new written

abbrev pub invariant-loop-rest : goal.invariant-loop-rest
invariant-loop-rest g l = HasWritten l.bytes l.rest (g.W.Sink.contents l.fn.writer)
    (g.W.Sink.contents l.writer) × (g.W.Sink.failed l.writer ≡ false)

abbrev pub decreases-loop-rest : goal.decreases-loop-rest
decreases-loop-rest g l = length l.rest
