use Rattle.nb_core.proofs.Counting.{counted_once}
use Rattle.nb_core.proofs.laws.counted.Goals as goal

pub returns : goal.returns
returns c = counted_once
