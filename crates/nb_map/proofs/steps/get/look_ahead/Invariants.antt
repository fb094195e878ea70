use Rattle.std.proofs.Common.{[]}
use Rattle.nb_table.specs.Chains.{Grown}
use Rattle.nb_map.proofs.steps.get.look_ahead.Given as goal

abbrev pub invariant-loop-key : goal.invariant-loop-key
invariant-loop-key l = Grown l.chain.shape l.fn.seat l.seat [] l.key-index
