use Rattle.nb_map.proofs.Replied.{replies_fit}
use Rattle.nb_map.proofs.laws.replies_fit.Goals as goal

pub returns : goal.returns
returns c = replies_fit
