use Rattle.std.proofs.Common.{◌≡◌, ℕ, length, take}
use Rattle.nb_map.specs.Bulk.{HasGotAll}
use Rattle.nb_map.specs.Maps.{IsMine, SeatOf}
use Rattle.nb_map.proofs.map.Map.get_some.Given as goal

abbrev pub invariant-loop-i : goal.invariant-loop-i
invariant-loop-i l = record {
  own : IsMine l.self l.seat;
  room : length l.found ≡ length l.keys;
  got :
      (before : SeatOf) (looks : ℕ)
      → HasGotAll l.self before (take l.start l.keys) (take l.start l.fn.found) looks l.fn.seat
      → HasGotAll l.self before (take l.i l.keys) (take l.i l.found) looks l.seat;
}
