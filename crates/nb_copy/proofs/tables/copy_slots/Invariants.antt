use Rattle.std.proofs.Common.{◌≡◌, ℕ, ◌-◌, ◌*◌, ◌<◌, ◌≤◌, List, length}
use Rattle.std.specs.List.{All}
use Rattle.nb_core.specs.Tables.{IsFinished}
use Rattle.nb_table.specs.Chains.{seen_by}
use Rattle.nb_copy.specs.Copying.{HasCopied}
use Rattle.nb_copy.specs.Handing.{slot_steps}
use Rattle.nb_copy.proofs.tables.copy_slots.Given as goal

abbrev pub invariant-loop-i : goal.invariant-loop-i
invariant-loop-i l =
    (l.turned ≤ l.i)
    × ((slots : List ℕ) × (length slots ≡ l.turned) × All (λ j. (l.from ≤ j) × (j < l.i)) slots
    × HasCopied l.chain.shape l.g l.fn.seat l.seat slots 0 0
    ((l.i - l.from) * slot_steps l.chain.shape l.g))
    × ((j : ℕ) → l.from ≤ j → j < l.i → IsFinished (seen_by l.chain.shape l.seat) l.g j)
