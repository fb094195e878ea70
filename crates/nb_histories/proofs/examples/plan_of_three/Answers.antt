use Rattle.std.proofs.Common.{refl, [], ◌∷◌, Some}
use Rattle.nb_histories.specs.Histories.{plan_of_three}
use Rattle.nb_histories.proofs.Worked.{legal, numbers}
use Rattle.nb_histories.proofs.examples.plan_of_three.Goals as goal

pub returns-clause-legal : goal.returns-clause-legal
returns-clause-legal c = legal plan_of_three refl

pub returns-clause-numbers : goal.returns-clause-numbers
returns-clause-numbers c = numbers plan_of_three
    ((0, Some 10) ∷ (4, Some 14) ∷ (8, Some 18) ∷ (12, Some 22) ∷ []) refl
