use Rattle.nb_moving.proofs.Stays.{sealed_behind_closed}
use Rattle.nb_moving.proofs.laws.sealed_behind_closed.Goals as goal

pub returns : goal.returns
returns c = sealed_behind_closed
