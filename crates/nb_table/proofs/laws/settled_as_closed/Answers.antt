use Rattle.nb_table.proofs.Settling.{settled_as_closed}
use Rattle.nb_table.proofs.laws.settled_as_closed.Goals as goal

pub returns : goal.returns
returns c = settled_as_closed
