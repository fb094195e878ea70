use Rattle.nb_map.proofs.Away.{gone_on}
use Rattle.nb_map.proofs.map.Map.add.Goals as goal

pub returns-after-left-eq0 : goal.returns-after-left-eq0
returns-after-left-eq0 g c =
    gone_on c.in-GoesOn.ensures.waits _ (rw c.answer.ensures c.add_general.ensures)
