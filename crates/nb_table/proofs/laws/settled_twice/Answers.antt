use Rattle.nb_table.proofs.Settling.{settled_twice}
use Rattle.nb_table.proofs.laws.settled_twice.Goals as goal

pub returns : goal.returns
returns c = settled_twice
