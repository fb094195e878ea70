use Rattle.std.proofs.Common.{◌≡◌, ◌≤◌, ℕ, false, length}
use Rattle.nb_texts.specs.Memory.{TellsWhetherFits}
use Rattle.nb_tally.specs.Forgotten.{CanForget, HasCutFor, IsNarrow, KeepsTold}
use Rattle.nb_tally.proofs.lines_forgotten.forget_for.Given as goal

abbrev pub invariant-loop-alloc : goal.invariant-loop-alloc
invariant-loop-alloc g l = record {
  ready : CanForget l.left;
  told : KeepsTold l.fn.rough l.left;
  over : TellsWhetherFits l.plan.limit l.left.tally.catalog l.block false;
  room : l.left.tally.catalog.room ≡ l.fn.rough.tally.catalog.room;
  few : length l.left.tally.catalog.texts ≤ length l.fn.rough.tally.catalog.texts;
  made :
      (most : ℕ) → IsNarrow l.plan.limit most l.fn.rough.tally.catalog
      → HasCutFor l.plan.limit most l.block l.fn.rough l.left;
}

abbrev pub decreases-loop-alloc : goal.decreases-loop-alloc
decreases-loop-alloc g l = length l.left.tally.catalog.texts
