use Rattle.std.proofs.Common.{max}
use Rattle.nb_migration.proofs.Stretches.{IsFreezing}
use Rattle.nb_migration.proofs.pieces.freeze_stretch.Given as goal

abbrev pub invariant-loop-passed : goal.invariant-loop-passed
invariant-loop-passed l =
    IsFreezing l.first (max l.tries 1) l.fn.core l.fn.list l.passed l.listed l.core l.list
