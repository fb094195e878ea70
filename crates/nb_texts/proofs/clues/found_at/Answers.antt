use Rattle.nb_texts.proofs.ClueLemmas.{looked-many, looked-none}
use Rattle.nb_texts.proofs.clues.found_at.Goals as goal

pub returns-in_err-keys : goal.returns-in_err-keys
returns-in_err-keys c = looked-none c.args.reader.now c.known.ensures.own

pub returns-in_err-found : goal.returns-in_err-found
returns-in_err-found c = looked-none c.args.reader.now c.known.ensures.own

pub returns : goal.returns
returns c =
    looked-many c.args.reader.now c.get_many.new.self _ _ c.get_many.ensures.got
    c.get_many.ensures.rest
