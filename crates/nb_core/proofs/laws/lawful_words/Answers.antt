use Rattle.nb_core.proofs.Lawful.{lawful_words}
use Rattle.nb_core.proofs.laws.lawful_words.Goals as goal

pub returns : goal.returns
returns c = lawful_words
