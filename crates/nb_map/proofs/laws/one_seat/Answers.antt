use Rattle.nb_map.proofs.OneSeat.{one_seat}
use Rattle.nb_map.proofs.laws.one_seat.Goals as goal

pub returns : goal.returns
returns c = one_seat
