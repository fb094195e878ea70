use Rattle.nb_core.proofs.Others.{own_lasts}
use Rattle.nb_core.proofs.laws.own_lasts.Goals as goal

pub returns : goal.returns
returns c = own_lasts
