use Rattle.nb_core.proofs.Following.{one_place}
use Rattle.nb_core.proofs.laws.one_place.Goals as goal

pub returns : goal.returns
returns c = one_place
