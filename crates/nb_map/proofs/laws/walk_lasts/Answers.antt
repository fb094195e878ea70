use Rattle.nb_map.proofs.WholeWalk.{walk_lasts}
use Rattle.nb_map.proofs.laws.walk_lasts.Goals as goal

pub returns : goal.returns
returns c = walk_lasts
