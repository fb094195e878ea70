use Rattle.nb_map.proofs.There.{looks}
use Rattle.nb_map.proofs.map.Map.look_ahead.Goals as goal

pub returns : goal.returns
returns c = looks c.requires.own c.look_at.ensures.looked c.look_at.ensures.count
