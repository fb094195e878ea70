use Rattle.std.proofs.Common.{refl, [], ◌∷◌, Some}
use Rattle.nb_histories.specs.Histories.{adds}
use Rattle.nb_histories.proofs.Worked.{legal, numbers}
use Rattle.nb_histories.proofs.examples.adds.Goals as goal

pub returns-clause-legal : goal.returns-clause-legal
returns-clause-legal c = legal adds refl

pub returns-clause-numbers : goal.returns-clause-numbers
returns-clause-numbers c = numbers adds ((1, Some 1152921504606846975) ∷ (2, Some 0) ∷ []) refl
