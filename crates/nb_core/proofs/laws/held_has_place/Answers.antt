use Rattle.nb_core.proofs.Searches.{held_has_place}
use Rattle.nb_core.proofs.laws.held_has_place.Goals as goal

pub returns : goal.returns
returns c = held_has_place
