use Rattle.nb_core.proofs.Later.{beginnings_are_legal}
use Rattle.nb_core.proofs.laws.beginnings_are_legal.Goals as goal

pub returns : goal.returns
returns c = beginnings_are_legal
