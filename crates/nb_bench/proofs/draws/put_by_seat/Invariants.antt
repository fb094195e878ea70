use Rattle.nb_map.specs.Maps.{IsMine}
use Rattle.nb_bench.proofs.draws.put_by_seat.Given as goal

abbrev pub invariant-loop-round : goal.invariant-loop-round
invariant-loop-round g l = IsMine l.map l.seat
