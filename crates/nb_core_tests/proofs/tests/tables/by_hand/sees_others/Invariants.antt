use Rattle.nb_core.specs.Tables.{AreOthers}
use Rattle.nb_table.specs.Chains.{IsOwn, seen_by}
use Rattle.nb_core_tests.proofs.tests.tables.by_hand.sees_others.Given as goal

abbrev pub invariant-loop-distance : goal.invariant-loop-distance
invariant-loop-distance g l =
    IsOwn l.chain l.seat × AreOthers l.chain.shape (seen_by l.chain.shape l.seat) 0 l.key l.distance
