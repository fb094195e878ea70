use Rattle.nb_core.proofs.Keys.{few_keys}
use Rattle.nb_core.proofs.laws.few_keys.Goals as goal

pub returns : goal.returns
returns c = few_keys
