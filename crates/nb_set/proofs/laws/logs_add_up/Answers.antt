use Rattle.nb_set.proofs.Logged.{logs_add_up}
use Rattle.nb_set.proofs.laws.logs_add_up.Goals as goal

pub returns : goal.returns
returns c = logs_add_up
