use Rattle.nb_core.proofs.Tables.{limits_fit}
use Rattle.nb_core.proofs.laws.limits_fit.Goals as goal

pub returns : goal.returns
returns c = limits_fit
