use Rattle.std.proofs.Common.{◌∙◌, sym}
use Rattle.nb_texts.proofs.RestLemmas.{settled-whole}
use Rattle.nb_texts.proofs.catalog.settled.Goals as goal

pub returns-in-Ok-clause-whole : goal.returns-in-Ok-clause-whole
returns-in-Ok-clause-whole c =
    settled-whole c.args.handle.now c.settle.new.self c.settle.ensures.map c.in-Ok.ensures.settled
    (λ missing. let wrong = sym (c.settle.ensures.all.1 missing) ∙ c.in-Ok.is in cc)
