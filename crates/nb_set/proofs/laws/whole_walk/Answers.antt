use Rattle.nb_set.proofs.Walked.{whole_walk}
use Rattle.nb_set.proofs.laws.whole_walk.Goals as goal

pub returns : goal.returns
returns c = whole_walk
