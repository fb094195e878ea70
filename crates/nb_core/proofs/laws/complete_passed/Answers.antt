use Rattle.nb_core.proofs.Following.{complete_passed}
use Rattle.nb_core.proofs.laws.complete_passed.Goals as goal

pub returns : goal.returns
returns c = complete_passed
