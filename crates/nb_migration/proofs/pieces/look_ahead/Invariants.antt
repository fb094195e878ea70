use Rattle.std.proofs.Common.{ℕ, ◌+◌, List}
use Rattle.nb_map.specs.Handles.{KeepsRest}
use Rattle.nb_map.specs.Maps.{SeatOf}
use Rattle.nb_migration.specs.Pieces.{HasCopiedEntries}
use Rattle.nb_migration.specs.declared.copying.Copied.{Copied}
use Rattle.nb_migration.specs.declared.pieces.FrozenEntry.{FrozenEntry}
use Rattle.nb_migration.proofs.pieces.look_ahead.Given as goal

abbrev pub invariant-loop-entry : goal.invariant-loop-entry
invariant-loop-entry l = record {
  rest : KeepsRest l.fn.target l.target;
  looked :
      (before : SeatOf) (copied : List FrozenEntry) (answers : List Copied) (looks : ℕ)
      → HasCopiedEntries l.fn.target.map before copied answers looks l.fn.target.seat
      → HasCopiedEntries l.fn.target.map before copied answers (looks + l.entry-index) l.target.seat;
}
