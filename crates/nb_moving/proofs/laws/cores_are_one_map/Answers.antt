use Rattle.nb_moving.proofs.Whole.{cores_are_one_map}
use Rattle.nb_moving.proofs.laws.cores_are_one_map.Goals as goal

pub returns : goal.returns
returns c = cores_are_one_map
