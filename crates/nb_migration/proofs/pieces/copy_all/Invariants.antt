use Rattle.std.proofs.Common.{◌≡◌, ◌≤◌, ◌-◌, length, take}
use Rattle.nb_map.specs.Handles.{KeepsRest}
use Rattle.nb_migration.specs.Pieces.{HasCopiedEntries}
use Rattle.nb_migration.proofs.pieces.copy_all.Given as goal

abbrev pub invariant-loop-done : goal.invariant-loop-done
invariant-loop-done l = record {
  rest : KeepsRest l.fn.target l.target;
  room : length l.answers ≡ length l.entries;
  within : l.done ≤ length l.entries;
  copied :
      HasCopiedEntries l.fn.target.map l.fn.target.seat (take l.done l.entries)
      (take l.done l.answers) l.done l.target.seat;
}

abbrev pub decreases-loop-done : goal.decreases-loop-done
decreases-loop-done l = length l.entries - l.done
