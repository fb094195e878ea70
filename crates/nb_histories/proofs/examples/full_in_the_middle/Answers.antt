use Rattle.std.proofs.Common.{refl, [], ◌∷◌, None}
use Rattle.nb_histories.specs.Histories.{full_in_the_middle}
use Rattle.nb_histories.proofs.Worked.{legal, numbers}
use Rattle.nb_histories.proofs.examples.full_in_the_middle.Goals as goal

pub returns-clause-legal : goal.returns-clause-legal
returns-clause-legal c = legal full_in_the_middle refl

pub returns-clause-numbers : goal.returns-clause-numbers
returns-clause-numbers c = numbers full_in_the_middle ((1, None) ∷ (5, None) ∷ []) refl
