use Rattle.std.proofs.Common.{refl, [], ◌∷◌, Some}
use Rattle.nb_histories.specs.Histories.{add_contended_once}
use Rattle.nb_histories.proofs.Worked.{legal, numbers}
use Rattle.nb_histories.proofs.examples.add_contended_once.Goals as goal

pub returns-clause-legal : goal.returns-clause-legal
returns-clause-legal c = legal add_contended_once refl

pub returns-clause-numbers : goal.returns-clause-numbers
returns-clause-numbers c = numbers add_contended_once ((7, Some 11) ∷ []) refl
