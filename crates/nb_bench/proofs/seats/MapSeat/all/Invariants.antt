use Rattle.std.specs.Arc.{arc_value}
use Rattle.std.proofs.Common.{length}
use Rattle.nb_map.specs.Maps.{AreMine}
use Rattle.nb_bench.proofs.seats.MapSeat.all.Given as goal

abbrev pub invariant-loop-seat : goal.invariant-loop-seat
invariant-loop-seat l = AreMine (arc_value l.map) l.seats.items

abbrev pub decreases-loop-seat : goal.decreases-loop-seat
decreases-loop-seat l = length l.seats.items
