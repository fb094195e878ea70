use Rattle.nb_lasting.proofs.Settled.{one_log_so_far}
use Rattle.nb_lasting.proofs.laws.one_log_so_far.Goals as goal

pub returns : goal.returns
returns c = one_log_so_far
