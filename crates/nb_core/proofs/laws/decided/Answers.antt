use Rattle.nb_core.proofs.Shown.{decided}
use Rattle.nb_core.proofs.laws.decided.Goals as goal

pub returns : goal.returns
returns c = decided
