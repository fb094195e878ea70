use Rattle.std.proofs.Common.{refl, [], ◌∷◌, Some}
use Rattle.nb_histories.specs.Histories.{contended_once}
use Rattle.nb_histories.proofs.Worked.{legal, numbers}
use Rattle.nb_histories.proofs.examples.contended_once.Goals as goal

pub returns-clause-legal : goal.returns-clause-legal
returns-clause-legal c = legal contended_once refl

pub returns-clause-numbers : goal.returns-clause-numbers
returns-clause-numbers c = numbers contended_once ((7, Some 6) ∷ []) refl
