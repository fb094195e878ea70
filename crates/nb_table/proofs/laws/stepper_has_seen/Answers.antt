use Rattle.nb_table.proofs.Moments.{stepper_has_seen}
use Rattle.nb_table.proofs.laws.stepper_has_seen.Goals as goal

pub returns : goal.returns
returns c = stepper_has_seen
