use Rattle.nb_core.proofs.Shown.{crowded_absent}
use Rattle.nb_core.proofs.laws.crowded_absent.Goals as goal

pub returns : goal.returns
returns c = crowded_absent
