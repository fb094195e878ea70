use Rattle.nb_moving.proofs.Stays.{moved_once}
use Rattle.nb_moving.proofs.laws.moved_once.Goals as goal

pub returns : goal.returns
returns c = moved_once
