use Rattle.nb_core.proofs.Linked.{whole_crowded}
use Rattle.nb_core.proofs.laws.whole_crowded.Goals as goal

pub returns : goal.returns
returns c = whole_crowded
