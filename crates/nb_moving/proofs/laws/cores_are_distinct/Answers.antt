use Rattle.nb_moving.proofs.Rows.{cores_are_distinct}
use Rattle.nb_moving.proofs.laws.cores_are_distinct.Goals as goal

pub returns : goal.returns
returns c = cores_are_distinct
