use Rattle.std.proofs.Common.{refl}
use Rattle.nb_moving.specs.Examples.{seal_over_frozen}
use Rattle.nb_moving.proofs.Refused.{legal_before, seals_before, seal_over_frozen_refused}
use Rattle.nb_moving.proofs.refusals.seal_over_frozen.Goals as goal

pub returns-clause-legal : goal.returns-clause-legal
returns-clause-legal c = legal_before seal_over_frozen refl

pub returns-clause-seals : goal.returns-clause-seals
returns-clause-seals c = seals_before seal_over_frozen refl

pub returns-clause-refused : goal.returns-clause-refused
returns-clause-refused c = seal_over_frozen_refused
