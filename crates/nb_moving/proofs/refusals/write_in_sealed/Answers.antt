use Rattle.std.proofs.Common.{refl}
use Rattle.nb_moving.specs.Examples.{write_in_sealed}
use Rattle.nb_moving.proofs.Refused.{legal_before, seals_before, write_in_sealed_breaks}
use Rattle.nb_moving.proofs.refusals.write_in_sealed.Goals as goal

pub returns-clause-legal : goal.returns-clause-legal
returns-clause-legal c = legal_before write_in_sealed refl

pub returns-clause-seals : goal.returns-clause-seals
returns-clause-seals c = seals_before write_in_sealed refl

pub returns-clause-breaks : goal.returns-clause-breaks
returns-clause-breaks c = write_in_sealed_breaks
