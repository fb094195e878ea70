use Rattle.std.proofs.Common.{refl, [], ◌∷◌, Some, None}
use Rattle.nb_histories.specs.Histories.{same_size_successor}
use Rattle.nb_histories.proofs.Worked.{crowded, legal, numbers}
use Rattle.nb_histories.proofs.examples.same_size_successor.Goals as goal

pub returns-clause-legal : goal.returns-clause-legal
returns-clause-legal c = legal same_size_successor refl

pub returns-clause-numbers : goal.returns-clause-numbers
returns-clause-numbers c = numbers same_size_successor
    ((0, None) ∷ (4, None) ∷ (8, None) ∷ (12, Some 22) ∷ (16, Some 26) ∷ (20, Some 30)
    ∷ (24, Some 34) ∷ []) refl

pub returns-clause-full : goal.returns-clause-full
returns-clause-full c = crowded same_size_successor 28 refl
