use Rattle.nb_table.proofs.Settling.{settled_is_all}
use Rattle.nb_table.proofs.laws.settled_is_all.Goals as goal

pub returns : goal.returns
returns c = settled_is_all
