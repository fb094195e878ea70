use Rattle.nb_core.proofs.Following.{top_complete}
use Rattle.nb_core.proofs.laws.top_complete.Goals as goal

pub returns : goal.returns
returns c = top_complete
