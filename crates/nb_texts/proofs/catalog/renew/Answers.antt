use Rattle.std.proofs.Common.{◌∙◌, Err, ap}
use Rattle.nb_texts.proofs.catalog.renew.Goals as goal

pub returns-in-Err-Full-clause-full : goal.returns-in-Err-Full-clause-full
returns-in-Err-Full-clause-full c = λ is.
    c.renew.ensures.full (c.in-Err-Full.is ∙ ap Err c.in-Err-Full.field-0-is)
