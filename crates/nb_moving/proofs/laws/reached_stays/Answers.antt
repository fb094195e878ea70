use Rattle.nb_moving.proofs.Stays.{reached_stays}
use Rattle.nb_moving.proofs.laws.reached_stays.Goals as goal

pub returns : goal.returns
returns c = reached_stays
