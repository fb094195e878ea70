use Rattle.nb_core.proofs.Tables.{indices_are_distinct}
use Rattle.nb_core.proofs.laws.indices_are_distinct.Goals as goal

pub returns : goal.returns
returns c = indices_are_distinct
