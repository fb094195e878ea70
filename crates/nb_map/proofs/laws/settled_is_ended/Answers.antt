use Rattle.nb_map.proofs.Settled.{settled_is_ended}
use Rattle.nb_map.proofs.laws.settled_is_ended.Goals as goal

pub returns : goal.returns
returns c = settled_is_ended
