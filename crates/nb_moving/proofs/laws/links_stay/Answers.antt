use Rattle.nb_moving.proofs.Stays.{links_stay}
use Rattle.nb_moving.proofs.laws.links_stay.Goals as goal

pub returns : goal.returns
returns c = links_stay
