use Rattle.std.proofs.Common.{refl}
use Rattle.nb_histories.specs.Refusals.{overwriting_copy}
use Rattle.nb_histories.proofs.Refused.{legal_before, overwriting_copy_refused}
use Rattle.nb_histories.proofs.refusals.overwriting_copy.Goals as goal

pub returns-clause-legal : goal.returns-clause-legal
returns-clause-legal c = legal_before overwriting_copy refl

pub returns-clause-refused : goal.returns-clause-refused
returns-clause-refused c = overwriting_copy_refused
