use Rattle.nb_table.proofs.Moments.{words_change_lawfully}
use Rattle.nb_table.proofs.laws.words_change_lawfully.Goals as goal

pub returns : goal.returns
returns c = words_change_lawfully
