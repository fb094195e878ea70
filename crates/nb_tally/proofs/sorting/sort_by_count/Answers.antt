use Rattle.std.proofs.Common.{◌≡◌, rules}
use Rattle.std.proofs.lemmas.Fn.{always_returns_same}
use Rattle.nb_texts.specs.declared.tally.Row.{Row}
use Rattle.nb_tally.proofs.sorting.sort_by_count.Goals as goal

pub returns-clause-sorted : goal.returns-clause-sorted
returns-clause-sorted c =
    c.sort_unstable_by_key.ensures.sorted (λ (row : Row). (record { 0 = row.times }, row.place))
    (always_returns_same _ (λ a r. r ≡ (record { 0 = a.0.now.times }, a.0.now.place)) _ (λ a r q k. search rules))
