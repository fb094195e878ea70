use Rattle.nb_core.proofs.Replayed.{log_is_replayed}
use Rattle.nb_core.proofs.laws.log_is_replayed.Goals as goal

pub returns : goal.returns
returns c = log_is_replayed
