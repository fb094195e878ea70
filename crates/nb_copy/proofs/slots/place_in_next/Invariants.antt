use Rattle.std.proofs.Common.{◌*◌, suc, []}
use Rattle.nb_core.specs.Tables.{AreOthers}
use Rattle.nb_table.specs.Chains.{seen_by}
use Rattle.nb_copy.specs.Copying.{HasCopied}
use Rattle.nb_copy.proofs.slots.place_in_next.Given as goal

abbrev pub invariant-loop-distance : goal.invariant-loop-distance
invariant-loop-distance l =
    HasCopied l.chain.shape l.g l.fn.seat l.seat [] 0 0 (2 * l.distance)
    × AreOthers l.chain.shape (seen_by l.chain.shape l.seat) (suc l.g) l.key l.distance
