use Rattle.std.proofs.Common.{refl, [], ◌∷◌, Some, None}
use Rattle.nb_histories.specs.Histories.{stopped_copier}
use Rattle.nb_histories.proofs.Worked.{legal, numbers}
use Rattle.nb_histories.proofs.examples.stopped_copier.Goals as goal

pub returns-clause-legal : goal.returns-clause-legal
returns-clause-legal c = legal stopped_copier refl

pub returns-clause-numbers : goal.returns-clause-numbers
returns-clause-numbers c = numbers stopped_copier
    ((0, None) ∷ (4, Some 14) ∷ (8, Some 18) ∷ (16, Some 26) ∷ (24, Some 34) ∷ (32, Some 42) ∷ [])
    refl
