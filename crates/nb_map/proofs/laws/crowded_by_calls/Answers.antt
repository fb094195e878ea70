use Rattle.nb_map.proofs.Crowding.{crowded_by_calls}
use Rattle.nb_map.proofs.laws.crowded_by_calls.Goals as goal

pub returns : goal.returns
returns c = crowded_by_calls
