use Rattle.std.proofs.Common.{refl}
use Rattle.nb_histories.specs.Refusals.{silent_overflow}
use Rattle.nb_histories.proofs.Refused.{legal_before, silent_overflow_refused}
use Rattle.nb_histories.proofs.refusals.silent_overflow.Goals as goal

pub returns-clause-legal : goal.returns-clause-legal
returns-clause-legal c = legal_before silent_overflow refl

pub returns-clause-refused : goal.returns-clause-refused
returns-clause-refused c = silent_overflow_refused
