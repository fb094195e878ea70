use Rattle.std.proofs.Common.{refl}
use Rattle.nb_moving.specs.Examples.{hasty_write}
use Rattle.nb_moving.proofs.Refused.{legal_before, seals_before, hasty_write_refused}
use Rattle.nb_moving.proofs.refusals.hasty_write.Goals as goal

pub returns-clause-legal : goal.returns-clause-legal
returns-clause-legal c = legal_before hasty_write refl

pub returns-clause-seals : goal.returns-clause-seals
returns-clause-seals c = seals_before hasty_write refl

pub returns-clause-refused : goal.returns-clause-refused
returns-clause-refused c = hasty_write_refused
