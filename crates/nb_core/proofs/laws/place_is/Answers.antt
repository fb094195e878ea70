use Rattle.nb_core.proofs.Searches.{place_is}
use Rattle.nb_core.proofs.laws.place_is.Goals as goal

pub returns : goal.returns
returns c = place_is
