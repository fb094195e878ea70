use Rattle.std.proofs.Common.{refl}
use Rattle.nb_moving.specs.Examples.{copy_over_gone}
use Rattle.nb_moving.proofs.Refused.{legal_before, seals_before, copy_over_gone_refused}
use Rattle.nb_moving.proofs.refusals.copy_over_gone.Goals as goal

pub returns-clause-legal : goal.returns-clause-legal
returns-clause-legal c = legal_before copy_over_gone refl

pub returns-clause-seals : goal.returns-clause-seals
returns-clause-seals c = seals_before copy_over_gone refl

pub returns-clause-refused : goal.returns-clause-refused
returns-clause-refused c = copy_over_gone_refused
