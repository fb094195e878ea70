use Rattle.nb_core.proofs.Following.{passed_settled}
use Rattle.nb_core.proofs.laws.passed_settled.Goals as goal

pub returns : goal.returns
returns c = passed_settled
