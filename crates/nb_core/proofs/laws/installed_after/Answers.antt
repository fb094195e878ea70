use Rattle.nb_core.proofs.Following.{installed_after}
use Rattle.nb_core.proofs.laws.installed_after.Goals as goal

pub returns : goal.returns
returns c = installed_after
