use Rattle.std.proofs.Common.{refl}
use Rattle.nb_moving.specs.Examples.{over_three_cores}
use Rattle.nb_moving.proofs.Tests.{legal, seals_hold}
use Rattle.nb_moving.proofs.examples.over_three_cores.Goals as goal

pub returns-clause-legal : goal.returns-clause-legal
returns-clause-legal c = legal over_three_cores refl

pub returns-clause-seals : goal.returns-clause-seals
returns-clause-seals c = seals_hold over_three_cores refl

pub returns-clause-states : goal.returns-clause-states
returns-clause-states c = refl

pub returns-clause-number : goal.returns-clause-number
returns-clause-number c = refl
