use Rattle.nb_moving.proofs.Stays.{closed_stays}
use Rattle.nb_moving.proofs.laws.closed_stays.Goals as goal

pub returns : goal.returns
returns c = closed_stays
