use Rattle.nb_map.proofs.Entries.{entries_at_rest}
use Rattle.nb_map.proofs.laws.entries_at_rest.Goals as goal

pub returns : goal.returns
returns c = entries_at_rest
