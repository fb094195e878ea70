use Rattle.nb_count.proofs.Gathered.{stripes_are_free}
use Rattle.nb_count.proofs.laws.stripes_are_free.Goals as goal

pub returns : goal.returns
returns c = stripes_are_free
