use Rattle.nb_core.proofs.Lawful.{lawful_changes}
use Rattle.nb_core.proofs.laws.lawful_changes.Goals as goal

pub returns : goal.returns
returns c = lawful_changes
