use Rattle.nb_core.proofs.Codings.{codings}
use Rattle.nb_core.proofs.laws.codings.Goals as goal

pub returns : goal.returns
returns c = codings
