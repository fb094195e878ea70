use Rattle.nb_core.proofs.Others.{passed_over_adds}
use Rattle.nb_core.proofs.laws.passed_over_adds.Goals as goal

pub returns : goal.returns
returns c = passed_over_adds
