use Rattle.nb_core.proofs.Others.{lost_exchange}
use Rattle.nb_core.proofs.laws.lost_exchange.Goals as goal

pub returns : goal.returns
returns c = lost_exchange
