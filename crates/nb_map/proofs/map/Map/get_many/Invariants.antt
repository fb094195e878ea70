use Rattle.std.proofs.Common.{◌≡◌, ◌≤◌, ◌-◌, length, take}
use Rattle.nb_map.specs.Bulk.{HasGotAll}
use Rattle.nb_map.specs.Maps.{IsMine}
use Rattle.nb_map.proofs.map.Map.get_many.Given as goal

abbrev pub invariant-loop-done : goal.invariant-loop-done
invariant-loop-done l = record {
  own : IsMine l.self l.seat;
  room : length l.found ≡ length l.keys;
  within : l.done ≤ length l.keys;
  got : HasGotAll l.self l.fn.seat (take l.done l.keys) (take l.done l.found) l.done l.seat;
}

abbrev pub decreases-loop-done : goal.decreases-loop-done
decreases-loop-done l = length l.keys - l.done
