use Rattle.nb_lasting.proofs.Alone.{ended-alone}
use Rattle.nb_lasting.proofs.present.Present.close.Goals as goal

pub returns : goal.returns
returns g c = ended-alone c.args.self.handle c.in-Ok.ended c.requires.alone c.in-Ok.ensures.ended
