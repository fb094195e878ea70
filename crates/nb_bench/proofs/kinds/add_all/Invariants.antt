use Rattle.nb_map.specs.Maps.{IsMine}
use Rattle.nb_bench.proofs.kinds.add_all.Given as goal

abbrev pub invariant-loop-place : goal.invariant-loop-place
invariant-loop-place g l = IsMine l.map l.seat
