use Rattle.nb_moving.proofs.Stays.{had_stays}
use Rattle.nb_moving.proofs.laws.had_stays.Goals as goal

pub returns : goal.returns
returns c = had_stays
