use Rattle.nb_core.proofs.Later.{slots_stay}
use Rattle.nb_core.proofs.laws.stays.Goals as goal

pub returns : goal.returns
returns c = slots_stay
