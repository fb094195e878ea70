use Rattle.nb_table.proofs.Growing.{steps_add_up}
use Rattle.nb_table.proofs.laws.steps_add_up.Goals as goal

pub returns : goal.returns
returns c = steps_add_up
