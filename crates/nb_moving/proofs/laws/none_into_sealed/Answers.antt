use Rattle.nb_moving.proofs.Stays.{none_into_sealed}
use Rattle.nb_moving.proofs.laws.none_into_sealed.Goals as goal

pub returns : goal.returns
returns c = none_into_sealed
