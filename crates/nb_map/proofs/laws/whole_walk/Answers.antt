use Rattle.nb_map.proofs.WholeWalk.{whole_walk}
use Rattle.nb_map.proofs.laws.whole_walk.Goals as goal

pub returns : goal.returns
returns c = whole_walk
