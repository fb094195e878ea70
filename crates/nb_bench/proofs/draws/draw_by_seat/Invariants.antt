use Rattle.nb_map.specs.Maps.{IsMine}
use Rattle.nb_bench.proofs.draws.draw_by_seat.Given as goal

abbrev pub invariant-loop-turn : goal.invariant-loop-turn
invariant-loop-turn g l = IsMine l.map l.seat
