use Rattle.std.proofs.Common.{refl, [], ◌∷◌, Some, None}
use Rattle.nb_histories.specs.Histories.{a_removal_is_not_copied}
use Rattle.nb_histories.proofs.Worked.{legal, numbers}
use Rattle.nb_histories.proofs.examples.a_removal_is_not_copied.Goals as goal

pub returns-clause-legal : goal.returns-clause-legal
returns-clause-legal c = legal a_removal_is_not_copied refl

pub returns-clause-numbers : goal.returns-clause-numbers
returns-clause-numbers c = numbers a_removal_is_not_copied
    ((0, Some 10) ∷ (4, None) ∷ (8, Some 18) ∷ (12, Some 22) ∷ []) refl
