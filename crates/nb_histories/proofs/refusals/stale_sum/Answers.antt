use Rattle.std.proofs.Common.{refl}
use Rattle.nb_histories.specs.Refusals.{stale_sum}
use Rattle.nb_histories.proofs.Refused.{legal_before, stale_sum_refused}
use Rattle.nb_histories.proofs.refusals.stale_sum.Goals as goal

pub returns-clause-legal : goal.returns-clause-legal
returns-clause-legal c = legal_before stale_sum refl

pub returns-clause-refused : goal.returns-clause-refused
returns-clause-refused c = stale_sum_refused
