use Rattle.std.proofs.Common.{refl}
use Rattle.nb_histories.specs.Refusals.{early_promotion}
use Rattle.nb_histories.proofs.Refused.{legal_before, early_promotion_refused}
use Rattle.nb_histories.proofs.refusals.early_promotion.Goals as goal

pub returns-clause-legal : goal.returns-clause-legal
returns-clause-legal c = legal_before early_promotion refl

pub returns-clause-refused : goal.returns-clause-refused
returns-clause-refused c = early_promotion_refused
