use Rattle.nb_texts.specs.Hashes.{key_for}
use Rattle.nb_texts.proofs.StoppedLemmas.{kept-none}
use Rattle.nb_texts.proofs.catalog.enter_found.Goals as goal

pub returns-in_err-clues-clause-index : goal.returns-in_err-clues-clause-index
returns-in_err-clues-clause-index g c =
    kept-none (key_for c.args.hashing) c.args.handle.now.map c.args.handle.now.seat c.args.texts.now
    c.known.ensures.own
