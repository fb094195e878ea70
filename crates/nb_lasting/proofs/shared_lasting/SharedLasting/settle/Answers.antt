use Rattle.nb_lasting.proofs.Settled.{still-of}
use Rattle.nb_lasting.proofs.shared_lasting.SharedLasting.settle.Goals as goal

pub returns-clause-of : goal.returns-clause-of
returns-clause-of g c =
    still-of c.args.self.now c.args.guests.now c.settle_guests.new.guests c.settle_guests.result
    c.settle_guests.ensures.settled c.settle_guests.ensures.kept c.requires.of
