use Rattle.nb_lasting.proofs.Visiting.{then-called}
use Rattle.nb_lasting.proofs.laws.guest_calls_add_up.Goals as goal

pub returns : goal.returns
returns c = λ first middle last made later one two. then-called first middle last made later one two
