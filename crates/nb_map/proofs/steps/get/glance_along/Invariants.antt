use Rattle.std.proofs.Common.{[], ◌-◌, ◌*◌}
use Rattle.nb_core.specs.Tables.{AreOthers}
use Rattle.nb_core.specs.declared.calls.Call.TheVariants as call
use Rattle.nb_table.specs.Chains.{seen_by}
use Rattle.nb_map.specs.Calling.{HasMade}
use Rattle.nb_map.proofs.steps.get.glance_along.Given as goal

abbrev pub invariant-loop-distance : goal.invariant-loop-distance
invariant-loop-distance l =
    HasMade l.chain.shape (call.Get l.key) l.fn.seat l.seat [] (2 * (l.distance - l.fn.from))
    × AreOthers l.chain.shape (seen_by l.chain.shape l.seat) l.fn.g l.key l.distance
