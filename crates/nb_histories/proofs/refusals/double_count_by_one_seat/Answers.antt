use Rattle.std.proofs.Common.{refl}
use Rattle.nb_histories.specs.Refusals.{double_count_by_one_seat}
use Rattle.nb_histories.proofs.Refused.{legal_before, double_count_by_one_seat_refused}
use Rattle.nb_histories.proofs.refusals.double_count_by_one_seat.Goals as goal

pub returns-clause-legal : goal.returns-clause-legal
returns-clause-legal c = legal_before double_count_by_one_seat refl

pub returns-clause-refused : goal.returns-clause-refused
returns-clause-refused c = double_count_by_one_seat_refused
