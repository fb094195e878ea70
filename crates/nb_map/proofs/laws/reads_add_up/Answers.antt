use Rattle.nb_map.proofs.Batched.{reads_add_up}
use Rattle.nb_map.proofs.laws.reads_add_up.Goals as goal

pub returns : goal.returns
returns c = reads_add_up
