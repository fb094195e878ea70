use Rattle.std.proofs.Common.{refl}
use Rattle.nb_histories.specs.Refusals.{reused_key}
use Rattle.nb_histories.proofs.Refused.{legal_before, reused_key_refused}
use Rattle.nb_histories.proofs.refusals.reused_key.Goals as goal

pub returns-clause-legal : goal.returns-clause-legal
returns-clause-legal c = legal_before reused_key refl

pub returns-clause-refused : goal.returns-clause-refused
returns-clause-refused c = reused_key_refused
