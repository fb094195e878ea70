use Rattle.std.proofs.Common.{◌≡◌, ℕ, length, take}
use Rattle.nb_map.specs.Handles.{KeepsRest}
use Rattle.nb_map.specs.Maps.{SeatOf}
use Rattle.nb_migration.specs.Pieces.{HasCopiedEntries}
use Rattle.nb_migration.proofs.pieces.copy_some.Given as goal

abbrev pub invariant-loop-i : goal.invariant-loop-i
invariant-loop-i l = record {
  rest : KeepsRest l.fn.target l.target;
  room : length l.answers ≡ length l.entries;
  copied :
      (before : SeatOf) (looks : ℕ)
      → HasCopiedEntries l.fn.target.map before (take l.start l.entries) (take l.start l.fn.answers)
      looks l.fn.target.seat
      → HasCopiedEntries l.fn.target.map before (take l.i l.entries) (take l.i l.answers) looks
      l.target.seat;
}
