use Rattle.std.proofs.Common.{refl}
use Rattle.nb_moving.specs.Examples.{left_for_two}
use Rattle.nb_moving.proofs.Tests.{legal, seals_hold}
use Rattle.nb_moving.proofs.examples.left_for_two.Goals as goal

pub returns-clause-legal : goal.returns-clause-legal
returns-clause-legal c = legal left_for_two refl

pub returns-clause-seals : goal.returns-clause-seals
returns-clause-seals c = seals_hold left_for_two refl

pub returns-clause-even : goal.returns-clause-even
returns-clause-even c = refl

pub returns-clause-odd : goal.returns-clause-odd
returns-clause-odd c = refl

pub returns-clause-full : goal.returns-clause-full
returns-clause-full c = refl

pub returns-clause-other : goal.returns-clause-other
returns-clause-other c = refl
