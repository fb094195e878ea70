use Rattle.nb_moving.proofs.Whole.{steps_leave_numbers}
use Rattle.nb_moving.proofs.laws.steps_leave_numbers.Goals as goal

pub returns : goal.returns
returns c = steps_leave_numbers
