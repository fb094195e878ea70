use Rattle.nb_core.proofs.Later.{seen_lasts}
use Rattle.nb_core.proofs.laws.seen_lasts.Goals as goal

pub returns : goal.returns
returns c = seen_lasts
