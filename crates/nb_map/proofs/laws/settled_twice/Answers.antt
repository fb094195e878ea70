use Rattle.nb_map.proofs.Settled.{settled_twice}
use Rattle.nb_map.proofs.laws.settled_twice.Goals as goal

pub returns : goal.returns
returns c = settled_twice
