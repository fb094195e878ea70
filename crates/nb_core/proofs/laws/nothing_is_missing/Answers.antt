use Rattle.nb_core.proofs.Whole.{nothing_is_missing}
use Rattle.nb_core.proofs.laws.nothing_is_missing.Goals as goal

pub returns : goal.returns
returns c = nothing_is_missing
