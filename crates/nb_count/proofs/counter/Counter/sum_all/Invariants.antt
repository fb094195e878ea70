use Rattle.std.proofs.Common.{◌≡◌}
use Rattle.nb_count.specs.Tallies.{wrapped}
use Rattle.nb_count.proofs.Sums.{over_stripes}
use Rattle.nb_count.proofs.counter.Counter.sum_all.Given as goal

abbrev pub ghosts-look_with_all : goal.ghosts-look_with_all
ghosts-look_with_all a = record { stripes = a.self.now.stripes }

-- the token is as it was, and the sum is what the stripes so far serve
abbrev pub invariant-loop-stripe : goal.invariant-loop-stripe
invariant-loop-stripe l =
    (l.all.table_id ≡ l.fn.all.table_id) × (l.all.me ≡ l.fn.all.me)
    × (l.sum ≡ wrapped (over_stripes l.fn.self.stripes l.stripe l.fn.all.me.0))
