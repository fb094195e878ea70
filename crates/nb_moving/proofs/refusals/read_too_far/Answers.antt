use Rattle.std.proofs.Common.{refl}
use Rattle.nb_moving.specs.Examples.{read_too_far}
use Rattle.nb_moving.proofs.Refused.{legal_before, seals_before, read_too_far_refused}
use Rattle.nb_moving.proofs.refusals.read_too_far.Goals as goal

pub returns-clause-legal : goal.returns-clause-legal
returns-clause-legal c = legal_before read_too_far refl

pub returns-clause-seals : goal.returns-clause-seals
returns-clause-seals c = seals_before read_too_far refl

pub returns-clause-refused : goal.returns-clause-refused
returns-clause-refused c = read_too_far_refused
