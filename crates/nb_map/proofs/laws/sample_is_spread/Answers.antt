use Rattle.nb_map.proofs.Sampled.{sample_is_spread}
use Rattle.nb_map.proofs.laws.sample_is_spread.Goals as goal

pub returns : goal.returns
returns c = sample_is_spread
