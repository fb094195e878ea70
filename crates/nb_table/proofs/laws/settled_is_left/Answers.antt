use Rattle.nb_table.proofs.Settling.{settled_is_left}
use Rattle.nb_table.proofs.laws.settled_is_left.Goals as goal

pub returns : goal.returns
returns c = settled_is_left
