use Rattle.std.proofs.Common.{[], false}
use Rattle.nb_core.specs.declared.calls.Call.TheVariants as call
use Rattle.nb_table.specs.Chains.{seen_by}
use Rattle.nb_map.specs.Calling.{HasMade}
use Rattle.nb_map.specs.Steps.{slots_below}
use Rattle.nb_map.specs.inside.Walking.{IsEarlier}
use Rattle.nb_map.proofs.steps.walk.is_earlier.Given as goal

abbrev pub invariant-loop-f : goal.invariant-loop-f
invariant-loop-f l =
    HasMade l.chain.shape (call.Get l.key) l.fn.seat l.seat [] (slots_below l.chain.shape l.f)
    × IsEarlier l.chain.shape (seen_by l.chain.shape l.seat) l.first l.f l.key false
