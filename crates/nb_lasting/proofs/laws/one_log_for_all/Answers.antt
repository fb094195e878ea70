use Rattle.nb_lasting.proofs.Epochs.{one_log_for_all}
use Rattle.nb_lasting.proofs.laws.one_log_for_all.Goals as goal

pub returns : goal.returns
returns c = one_log_for_all
