use Rattle.nb_core.proofs.Replayed.{calls_append}
use Rattle.nb_core.proofs.laws.calls_append.Goals as goal

pub returns : goal.returns
returns c = calls_append
