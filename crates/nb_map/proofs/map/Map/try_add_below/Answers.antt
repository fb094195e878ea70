use Rattle.nb_map.proofs.Away.{gone_on}
use Rattle.nb_map.proofs.map.Map.try_add_below.Goals as goal

pub returns-in-GoesOn : goal.returns-in-GoesOn
returns-in-GoesOn c = gone_on c.in-GoesOn.ensures.tries _ (rw c.answer.ensures c.try_add_below_general.ensures)
