use Rattle.std.proofs.Common.{refl}
use Rattle.nb_histories.specs.Refusals.{early_finish}
use Rattle.nb_histories.proofs.Refused.{legal_before, early_finish_refused}
use Rattle.nb_histories.proofs.refusals.early_finish.Goals as goal

pub returns-clause-legal : goal.returns-clause-legal
returns-clause-legal c = legal_before early_finish refl

pub returns-clause-refused : goal.returns-clause-refused
returns-clause-refused c = early_finish_refused
