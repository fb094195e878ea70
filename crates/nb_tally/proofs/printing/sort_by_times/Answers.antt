use Rattle.std.proofs.Common.{◌≡◌, rules}
use Rattle.std.proofs.lemmas.Fn.{always_returns_same}
use Rattle.nb_tally.specs.declared.counting.Count.{Count}
use Rattle.nb_tally.proofs.printing.sort_by_times.Goals as goal

pub returns-clause-sorted : goal.returns-clause-sorted
returns-clause-sorted c =
    c.sort_unstable_by_key.ensures.sorted (λ (count : Count). (record { 0 = count.times }, count.number))
    (always_returns_same _ (λ a r. r ≡ (record { 0 = a.0.now.times }, a.0.now.number)) _
    (λ a r q k. search rules))
