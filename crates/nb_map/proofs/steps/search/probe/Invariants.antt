use Rattle.std.proofs.Common.{◌-◌}
use Rattle.nb_core.specs.History.{key_of_call}
use Rattle.nb_core.specs.Tables.{AreOthers}
use Rattle.nb_table.specs.Chains.{seen_by}
use Rattle.nb_map.proofs.Searched.{read_up_to}
use Rattle.nb_map.specs.Calling.{HasMade}
use Rattle.nb_map.proofs.steps.search.probe.Given as goal

abbrev pub invariant-loop-distance : goal.invariant-loop-distance
invariant-loop-distance l =
    HasMade l.chain.shape l.call l.fn.seat l.seat (read_up_to l.chain.shape l.fn.rung.g l.call l.distance)
    (l.distance - l.fn.rung.from)
    × AreOthers l.chain.shape (seen_by l.chain.shape l.seat) l.fn.rung.g (key_of_call l.call)
    l.distance
