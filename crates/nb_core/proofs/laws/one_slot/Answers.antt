use Rattle.nb_core.proofs.Following.{has_one_slot}
use Rattle.nb_core.proofs.laws.one_slot.Goals as goal

pub returns : goal.returns
returns c = has_one_slot
