use Rattle.nb_texts.proofs.StoppedLemmas.{rests}
use Rattle.nb_texts.proofs.catalog.Catalog.make_room.Goals as goal

pub renew_for-requires-clause-stopped : goal.renew_for-requires-clause-stopped
renew_for-requires-clause-stopped c = rests c.args.self.now c.requires.rest
