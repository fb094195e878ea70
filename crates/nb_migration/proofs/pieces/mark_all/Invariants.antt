use Rattle.std.proofs.Common.{max, take}
use Rattle.nb_map.specs.Handles.{KeepsRest}
use Rattle.nb_migration.specs.Pieces.{HasMarkedEntries}
use Rattle.nb_migration.proofs.pieces.mark_all.Given as goal

abbrev pub invariant-loop-i : goal.invariant-loop-i
invariant-loop-i l = record {
  rest : KeepsRest l.fn.core l.core;
  marked :
      HasMarkedEntries l.fn.core.map (max l.tries 1) l.fn.core.seat (take l.i l.entries)
      (take l.i l.answers) l.core.seat;
}
