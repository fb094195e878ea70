use Rattle.nb_lasting.proofs.Visiting.{one_log_of_guests}
use Rattle.nb_lasting.proofs.laws.one_log_of_guests.Goals as goal

pub returns : goal.returns
returns c = one_log_of_guests
