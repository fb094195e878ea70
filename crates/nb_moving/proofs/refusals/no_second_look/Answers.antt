use Rattle.std.proofs.Common.{refl}
use Rattle.nb_moving.specs.Examples.{no_second_look}
use Rattle.nb_moving.proofs.Refused.{legal_before, seals_before, no_second_look_refused}
use Rattle.nb_moving.proofs.refusals.no_second_look.Goals as goal

pub returns-clause-legal : goal.returns-clause-legal
returns-clause-legal c = legal_before no_second_look refl

pub returns-clause-seals : goal.returns-clause-seals
returns-clause-seals c = seals_before no_second_look refl

pub returns-clause-refused : goal.returns-clause-refused
returns-clause-refused c = no_second_look_refused
