use Rattle.nb_lasting.proofs.Logged.{one_log}
use Rattle.nb_lasting.proofs.laws.one_log.Goals as goal

pub returns : goal.returns
returns c = one_log
