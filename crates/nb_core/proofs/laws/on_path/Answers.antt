use Rattle.nb_core.proofs.Linked.{on_path}
use Rattle.nb_core.proofs.laws.on_path.Goals as goal

pub returns : goal.returns
returns c = on_path
