use Rattle.std.proofs.Common.{refl}
use Rattle.nb_moving.specs.Examples.{none_at_closed}
use Rattle.nb_moving.proofs.Refused.{legal_before, seals_before, none_at_closed_refused}
use Rattle.nb_moving.proofs.refusals.none_at_closed.Goals as goal

pub returns-clause-legal : goal.returns-clause-legal
returns-clause-legal c = legal_before none_at_closed refl

pub returns-clause-seals : goal.returns-clause-seals
returns-clause-seals c = seals_before none_at_closed refl

pub returns-clause-refused : goal.returns-clause-refused
returns-clause-refused c = none_at_closed_refused
