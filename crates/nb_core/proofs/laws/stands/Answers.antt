use Rattle.nb_core.proofs.Shown.{stands}
use Rattle.nb_core.proofs.laws.stands.Goals as goal

pub returns : goal.returns
returns c = stands
