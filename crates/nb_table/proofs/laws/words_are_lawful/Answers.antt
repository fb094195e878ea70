use Rattle.nb_table.proofs.Moments.{words_are_lawful}
use Rattle.nb_table.proofs.laws.words_are_lawful.Goals as goal

pub returns : goal.returns
returns c = words_are_lawful
