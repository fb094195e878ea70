use Rattle.nb_count.proofs.Keeping.{looks_change_no_word}
use Rattle.nb_count.proofs.laws.looks_change_no_word.Goals as goal

pub returns : goal.returns
returns c = looks_change_no_word
