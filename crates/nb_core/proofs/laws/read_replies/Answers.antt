use Rattle.nb_core.proofs.Replying.{read_replies}
use Rattle.nb_core.proofs.laws.read_replies.Goals as goal

pub returns : goal.returns
returns c = read_replies
