use Rattle.std.proofs.Common.{refl, [], ◌∷◌, Some}
use Rattle.nb_histories.specs.Histories.{half_copied}
use Rattle.nb_histories.proofs.Worked.{legal, numbers}
use Rattle.nb_histories.proofs.examples.half_copied.Goals as goal

pub returns-clause-legal : goal.returns-clause-legal
returns-clause-legal c = legal half_copied refl

pub returns-clause-numbers : goal.returns-clause-numbers
returns-clause-numbers c = numbers half_copied ((0, Some 10) ∷ (4, Some 14) ∷ (8, Some 18) ∷ [])
    refl
