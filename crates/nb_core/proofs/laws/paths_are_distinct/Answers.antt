use Rattle.nb_core.proofs.Paths.{paths_are_distinct}
use Rattle.nb_core.proofs.laws.paths_are_distinct.Goals as goal

pub returns : goal.returns
returns c = paths_are_distinct
