use Rattle.nb_core.proofs.Net.{size_is_net}
use Rattle.nb_core.proofs.laws.size_is_net.Goals as goal

pub returns : goal.returns
returns c = size_is_net
