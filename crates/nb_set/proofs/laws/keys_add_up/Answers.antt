use Rattle.nb_set.proofs.Added.{keys_add_up}
use Rattle.nb_set.proofs.laws.keys_add_up.Goals as goal

pub returns : goal.returns
returns c = keys_add_up
