use Rattle.std.proofs.Common.{refl}
use Rattle.nb_moving.specs.Examples.{second_link}
use Rattle.nb_moving.proofs.Refused.{legal_before, seals_before, second_link_refused}
use Rattle.nb_moving.proofs.refusals.second_link.Goals as goal

pub returns-clause-legal : goal.returns-clause-legal
returns-clause-legal c = legal_before second_link refl

pub returns-clause-seals : goal.returns-clause-seals
returns-clause-seals c = seals_before second_link refl

pub returns-clause-refused : goal.returns-clause-refused
returns-clause-refused c = second_link_refused
