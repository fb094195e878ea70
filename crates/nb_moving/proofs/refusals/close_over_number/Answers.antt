use Rattle.std.proofs.Common.{refl}
use Rattle.nb_moving.specs.Examples.{close_over_number}
use Rattle.nb_moving.proofs.Refused.{legal_before, seals_before, close_over_number_refused}
use Rattle.nb_moving.proofs.refusals.close_over_number.Goals as goal

pub returns-clause-legal : goal.returns-clause-legal
returns-clause-legal c = legal_before close_over_number refl

pub returns-clause-seals : goal.returns-clause-seals
returns-clause-seals c = seals_before close_over_number refl

pub returns-clause-refused : goal.returns-clause-refused
returns-clause-refused c = close_over_number_refused
