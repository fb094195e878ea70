use Rattle.nb_core.proofs.Tables.{sizes_never_fall}
use Rattle.nb_core.proofs.laws.sizes_never_fall.Goals as goal

pub returns : goal.returns
returns c = sizes_never_fall
