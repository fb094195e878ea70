use Rattle.nb_table.proofs.Moments.{words_stand}
use Rattle.nb_table.proofs.laws.words_stand.Goals as goal

pub returns : goal.returns
returns c = words_stand
