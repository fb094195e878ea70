use Rattle.std.proofs.Common.{◌∙◌, [], ◌∷◌, ◌++◌, ap, sym}
use Rattle.nb_count.specs.Counts.{total_of}
use Rattle.nb_count.specs.Tallies.{wrapped}
use Rattle.nb_count.proofs.Settling.{sum-last}
use Rattle.nb_count.proofs.counter.Counter.settle.Goals as goal

pub returns-clause-sum : goal.returns-clause-sum
returns-clause-sum c =
    c.sum_with-seat.ensures.sum
    ∙ ap wrapped (sum-last c.pop.new.self.items c.last.inside c.last.invariant)
    ∙ ap (λ x. wrapped (total_of (c.pop.new.self.items ++ x ∷ []))) c.last.view_is
    ∙ ap (λ xs. wrapped (total_of xs)) (sym c.in-Some.ensures.items)
