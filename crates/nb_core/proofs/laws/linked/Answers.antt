use Rattle.nb_core.proofs.Linked.{linked}
use Rattle.nb_core.proofs.laws.linked.Goals as goal

pub returns : goal.returns
returns c = linked
