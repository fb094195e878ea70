use Rattle.std.proofs.Common.{rules}
use Rattle.nb_map.proofs.Swept.{sweep-as}
use Rattle.nb_map.specs.Bulk.{KeepsNone}
use Rattle.nb_map.proofs.map.Map.clear.Goals as goal

pub returns : goal.returns
returns g c =
    sweep-as KeepsNone (λ f. tt) (λ f k n keep g step. search (rules, step.met)) c.retain.ensures
