use Rattle.std.proofs.Common.{rules}
use Rattle.nb_set.proofs.Swept.{sweep-as}
use Rattle.nb_set.specs.Bulk.{KeepsNone}
use Rattle.nb_set.proofs.handle.Handle.clear.Goals as goal

pub returns-clause-swept : goal.returns-clause-swept
returns-clause-swept g c =
    sweep-as KeepsNone (λ f. tt) (λ f k keep g step. search (rules, step.met))
    c.retain.ensures.swept
