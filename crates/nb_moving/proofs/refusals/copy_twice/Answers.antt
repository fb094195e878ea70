use Rattle.std.proofs.Common.{refl}
use Rattle.nb_moving.specs.Examples.{copy_twice}
use Rattle.nb_moving.proofs.Refused.{legal_before, seals_before, copy_twice_refused}
use Rattle.nb_moving.proofs.refusals.copy_twice.Goals as goal

pub returns-clause-legal : goal.returns-clause-legal
returns-clause-legal c = legal_before copy_twice refl

pub returns-clause-seals : goal.returns-clause-seals
returns-clause-seals c = seals_before copy_twice refl

pub returns-clause-refused : goal.returns-clause-refused
returns-clause-refused c = copy_twice_refused
