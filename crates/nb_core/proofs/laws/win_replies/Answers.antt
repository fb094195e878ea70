use Rattle.nb_core.proofs.Replying.{win_replies}
use Rattle.nb_core.proofs.laws.win_replies.Goals as goal

pub returns : goal.returns
returns c = win_replies
