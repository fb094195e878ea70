use Rattle.std.proofs.Common.{refl, [], ◌∷◌, Some}
use Rattle.nb_histories.specs.Histories.{contended_once_with_two_tries}
use Rattle.nb_histories.proofs.Worked.{legal, numbers}
use Rattle.nb_histories.proofs.examples.contended_once_with_two_tries.Goals as goal

pub returns-clause-legal : goal.returns-clause-legal
returns-clause-legal c = legal contended_once_with_two_tries refl

pub returns-clause-numbers : goal.returns-clause-numbers
returns-clause-numbers c = numbers contended_once_with_two_tries ((7, Some 5) ∷ []) refl
