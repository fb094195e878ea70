use Rattle.std.proofs.Common.{take}
use Rattle.nb_texts.specs.Rows.{AreRowsOf}
use Rattle.nb_texts.proofs.tally.LineTally.rows.Given as goal

abbrev pub invariant-loop-place : goal.invariant-loop-place
invariant-loop-place l =
    AreRowsOf (take l.place l.self.catalog.texts) (take l.place l.self.counts.items) l.rows.items
