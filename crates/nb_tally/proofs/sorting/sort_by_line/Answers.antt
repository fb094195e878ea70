use Rattle.std.proofs.lemmas.List.Sorted.{IsPermutation-trans}
use Rattle.nb_tally.proofs.sorting.sort_by_line.Goals as goal

pub returns-clause-same : goal.returns-clause-same
returns-clause-same c =
    IsPermutation-trans _ _ _ c.sort_by_cached_key.ensures.permutation c.sort_unstable.ensures.permutation
