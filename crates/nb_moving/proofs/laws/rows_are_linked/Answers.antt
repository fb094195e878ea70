use Rattle.nb_moving.proofs.Rows.{rows_are_linked}
use Rattle.nb_moving.proofs.laws.rows_are_linked.Goals as goal

pub returns : goal.returns
returns c = rows_are_linked
