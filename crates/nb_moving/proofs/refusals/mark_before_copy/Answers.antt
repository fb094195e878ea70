use Rattle.std.proofs.Common.{refl}
use Rattle.nb_moving.specs.Examples.{mark_before_copy}
use Rattle.nb_moving.proofs.Refused.{legal_before, seals_before, mark_before_copy_refused}
use Rattle.nb_moving.proofs.refusals.mark_before_copy.Goals as goal

pub returns-clause-legal : goal.returns-clause-legal
returns-clause-legal c = legal_before mark_before_copy refl

pub returns-clause-seals : goal.returns-clause-seals
returns-clause-seals c = seals_before mark_before_copy refl

pub returns-clause-refused : goal.returns-clause-refused
returns-clause-refused c = mark_before_copy_refused
