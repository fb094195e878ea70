use Rattle.std.proofs.Common.{inl, inr, refl}
use Rattle.nb_map.proofs.Theorems.{asks_add_up}
use Rattle.nb_texts.proofs.catalog.put.Goals as goal

pub returns-in-Ok-clause-claims : goal.returns-in-Ok-clause-claims
returns-in-Ok-clause-claims g c = λ earlier asked.
    asks_add_up.more c.in-Ok.ensures.wrote.own.chain.plan (λ k filled. inr filled)
    (λ is. inl (is, refl)) asked c.in-Ok.ensures.wrote.non_blocking.steps

pub returns-in-Err-clause-claims : goal.returns-in-Err-clause-claims
returns-in-Err-clause-claims g c = λ earlier asked.
    asks_add_up.more c.in-Err.ensures.wrote.own.chain.plan (λ k filled. inr filled)
    (λ is. inl (is, refl)) asked c.in-Err.ensures.wrote.non_blocking.steps
