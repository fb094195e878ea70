use Rattle.std.proofs.Common.{refl}
use Rattle.nb_moving.specs.Examples.{link_from_nowhere}
use Rattle.nb_moving.proofs.Refused.{legal_before, seals_before, link_from_nowhere_refused}
use Rattle.nb_moving.proofs.refusals.link_from_nowhere.Goals as goal

pub returns-clause-legal : goal.returns-clause-legal
returns-clause-legal c = legal_before link_from_nowhere refl

pub returns-clause-seals : goal.returns-clause-seals
returns-clause-seals c = seals_before link_from_nowhere refl

pub returns-clause-refused : goal.returns-clause-refused
returns-clause-refused c = link_from_nowhere_refused
