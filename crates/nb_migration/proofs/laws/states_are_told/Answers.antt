use Rattle.nb_migration.proofs.ToldStates.{states_are_told}
use Rattle.nb_migration.proofs.laws.states_are_told.Goals as goal

pub returns : goal.returns
returns c = states_are_told
