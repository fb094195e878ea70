use Rattle.nb_core.proofs.Linked.{passed_above}
use Rattle.nb_core.proofs.laws.passed_above.Goals as goal

pub returns : goal.returns
returns c = passed_above
