use Rattle.nb_core.proofs.Keys.{map_in_range}
use Rattle.nb_core.proofs.laws.map_in_range.Goals as goal

pub returns : goal.returns
returns c = map_in_range
