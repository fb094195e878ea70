use Rattle.nb_moving.proofs.Stays.{closed_has_none}
use Rattle.nb_moving.proofs.laws.closed_has_none.Goals as goal

pub returns : goal.returns
returns c = closed_has_none
