use Rattle.nb_map.proofs.Crowding.{asks_add_up}
use Rattle.nb_map.proofs.laws.asks_add_up.Goals as goal

pub returns : goal.returns
returns c = asks_add_up
