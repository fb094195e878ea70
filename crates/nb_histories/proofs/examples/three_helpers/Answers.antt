use Rattle.std.proofs.Common.{refl, [], ◌∷◌, Some}
use Rattle.nb_histories.specs.Histories.{three_helpers}
use Rattle.nb_histories.proofs.Worked.{legal, numbers}
use Rattle.nb_histories.proofs.examples.three_helpers.Goals as goal

pub returns-clause-legal : goal.returns-clause-legal
returns-clause-legal c = legal three_helpers refl

pub returns-clause-numbers : goal.returns-clause-numbers
returns-clause-numbers c = numbers three_helpers
    ((0, Some 10) ∷ (16, Some 26) ∷ (32, Some 42) ∷ (48, Some 58) ∷ (64, Some 74) ∷ (80, Some 90)
    ∷ []) refl
