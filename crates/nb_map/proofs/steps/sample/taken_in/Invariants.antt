use Rattle.nb_map.proofs.Sampled.{IsCounting}
use Rattle.nb_map.proofs.steps.sample.taken_in.Given as goal

abbrev pub invariant-loop-j : goal.invariant-loop-j
invariant-loop-j l = IsCounting l.chain.shape l.fn.seat l.seat l.g l.j l.taken
