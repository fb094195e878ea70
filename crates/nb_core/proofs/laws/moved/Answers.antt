use Rattle.nb_core.proofs.Following.{moved}
use Rattle.nb_core.proofs.laws.moved.Goals as goal

pub returns : goal.returns
returns c = moved
