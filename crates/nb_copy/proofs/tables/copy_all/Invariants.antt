use Rattle.std.proofs.Common.{ℕ, ◌<◌, ◌≤◌, List, length}
use Rattle.nb_core.specs.Tables.{IsFinished}
use Rattle.nb_table.specs.Chains.{seen_by}
use Rattle.nb_copy.specs.Copying.{HasCopied}
use Rattle.nb_copy.specs.Handing.{walk_steps}
use Rattle.nb_copy.proofs.tables.copy_all.Given as goal

abbrev pub invariant-loop-i : goal.invariant-loop-i
invariant-loop-i l =
    ((slots : List ℕ) × HasCopied l.chain.shape l.g l.fn.seat l.seat slots 0 (length slots)
    (walk_steps l.chain.shape l.g l.i))
    × ((j : ℕ) → 0 ≤ j → j < l.i → IsFinished (seen_by l.chain.shape l.seat) l.g j)
