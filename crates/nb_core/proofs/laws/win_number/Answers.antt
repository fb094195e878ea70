use Rattle.nb_core.proofs.Shown.{win_number}
use Rattle.nb_core.proofs.laws.win_number.Goals as goal

pub returns : goal.returns
returns c = win_number
