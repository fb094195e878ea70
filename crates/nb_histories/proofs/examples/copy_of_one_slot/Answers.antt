use Rattle.std.proofs.Common.{refl, [], ◌∷◌, Some}
use Rattle.nb_histories.specs.Histories.{copy_of_one_slot}
use Rattle.nb_histories.proofs.Worked.{legal, numbers}
use Rattle.nb_histories.proofs.examples.copy_of_one_slot.Goals as goal

pub returns-clause-legal : goal.returns-clause-legal
returns-clause-legal c = legal copy_of_one_slot refl

pub returns-clause-numbers : goal.returns-clause-numbers
returns-clause-numbers c = numbers copy_of_one_slot
    ((0, Some 10) ∷ (4, Some 14) ∷ (8, Some 18) ∷ []) refl
