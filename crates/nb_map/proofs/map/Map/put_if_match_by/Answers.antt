use Rattle.nb_map.proofs.Away.{gone_on}
use Rattle.nb_map.proofs.map.Map.put_if_match_by.Goals as goal

pub returns-in-GoesOn : goal.returns-in-GoesOn
returns-in-GoesOn c = gone_on c.in-GoesOn.ensures.tries _ c.put_if_match_general.ensures
