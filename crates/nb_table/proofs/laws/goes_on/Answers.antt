use Rattle.nb_table.proofs.Moments.{goes_on}
use Rattle.nb_table.proofs.laws.goes_on.Goals as goal

pub returns : goal.returns
returns c = goes_on
