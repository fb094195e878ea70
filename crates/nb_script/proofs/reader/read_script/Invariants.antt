use Rattle.std.proofs.Common.{◌≡◌, false, length}
use Rattle.nb_script.specs.Reading.{room}
use Rattle.nb_script.proofs.Taken.{HasRead}
use Rattle.nb_script.proofs.reader.read_script.Given as goal

abbrev pub invariant-loop-count : goal.invariant-loop-count
invariant-loop-count g l =
    HasRead l.seats (g.R.Source.remaining l.fn.reader) (g.R.Source.remaining l.reader.reader.now)
    l.lines
    × (g.R.Source.failed l.reader.reader.now ≡ false) × (l.reader.ended ≡ false)
    × (length l.piece ≡ 4096) × (l.reader.reader.ghost_name ≡ l.initial.reader.reader.ghost_name)

abbrev pub decreases-loop-count : goal.decreases-loop-count
decreases-loop-count g l = room l.lines
