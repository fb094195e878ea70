use Rattle.std.proofs.Common.{refl}
use Rattle.nb_histories.specs.Refusals.{double_count}
use Rattle.nb_histories.proofs.Refused.{legal_before, double_count_refused}
use Rattle.nb_histories.proofs.refusals.double_count.Goals as goal

pub returns-clause-legal : goal.returns-clause-legal
returns-clause-legal c = legal_before double_count refl

pub returns-clause-refused : goal.returns-clause-refused
returns-clause-refused c = double_count_refused
