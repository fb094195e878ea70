use Rattle.std.proofs.Common.{refl, [], ◌∷◌, Some}
use Rattle.nb_histories.specs.Histories.{filled_removed_refilled}
use Rattle.nb_histories.proofs.Worked.{crowded, legal, numbers}
use Rattle.nb_histories.proofs.examples.filled_removed_refilled.Goals as goal

pub returns-clause-legal : goal.returns-clause-legal
returns-clause-legal c = legal filled_removed_refilled refl

pub returns-clause-numbers : goal.returns-clause-numbers
returns-clause-numbers c = numbers filled_removed_refilled
    ((0, Some 20) ∷ (1, Some 21) ∷ (2, Some 22) ∷ (3, Some 23) ∷ (4, Some 14) ∷ (5, Some 15)
    ∷ (6, Some 16) ∷ (7, Some 17) ∷ []) refl

pub returns-clause-full : goal.returns-clause-full
returns-clause-full c = crowded filled_removed_refilled 8 refl
