use Rattle.nb_set.proofs.Walked.{walk_lasts}
use Rattle.nb_set.proofs.laws.walk_lasts.Goals as goal

pub returns : goal.returns
returns c = walk_lasts
