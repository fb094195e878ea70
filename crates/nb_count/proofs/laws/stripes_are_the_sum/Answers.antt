use Rattle.nb_count.proofs.Gathered.{stripes_are_the_sum}
use Rattle.nb_count.proofs.laws.stripes_are_the_sum.Goals as goal

pub returns : goal.returns
returns c = stripes_are_the_sum
