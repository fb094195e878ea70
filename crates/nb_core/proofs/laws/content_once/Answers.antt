use Rattle.nb_core.proofs.Later.{content_once}
use Rattle.nb_core.proofs.laws.content_once.Goals as goal

pub returns : goal.returns
returns c = content_once
