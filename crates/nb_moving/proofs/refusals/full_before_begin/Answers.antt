use Rattle.std.proofs.Common.{refl}
use Rattle.nb_moving.specs.Examples.{full_before_begin}
use Rattle.nb_moving.proofs.Refused.{legal_before, seals_before, full_before_begin_refused}
use Rattle.nb_moving.proofs.refusals.full_before_begin.Goals as goal

pub returns-clause-legal : goal.returns-clause-legal
returns-clause-legal c = legal_before full_before_begin refl

pub returns-clause-seals : goal.returns-clause-seals
returns-clause-seals c = seals_before full_before_begin refl

pub returns-clause-refused : goal.returns-clause-refused
returns-clause-refused c = full_before_begin_refused
