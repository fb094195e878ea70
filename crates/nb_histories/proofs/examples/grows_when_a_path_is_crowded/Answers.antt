use Rattle.std.proofs.Common.{refl, [], ◌∷◌, Some}
use Rattle.nb_histories.specs.Histories.{grows_when_a_path_is_crowded}
use Rattle.nb_histories.proofs.Worked.{legal, numbers}
use Rattle.nb_histories.proofs.examples.grows_when_a_path_is_crowded.Goals as goal

pub returns-clause-legal : goal.returns-clause-legal
returns-clause-legal c = legal grows_when_a_path_is_crowded refl

pub returns-clause-numbers : goal.returns-clause-numbers
returns-clause-numbers c = numbers grows_when_a_path_is_crowded
    ((0, Some 10) ∷ (4, Some 14) ∷ (8, Some 18) ∷ (12, Some 22) ∷ []) refl
