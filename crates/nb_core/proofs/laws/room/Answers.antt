use Rattle.nb_core.proofs.Following.{has_room}
use Rattle.nb_core.proofs.laws.room.Goals as goal

pub returns : goal.returns
returns c = has_room
