use Rattle.std.proofs.Common.{[], refl, rules, subst, sym}
use Rattle.nb_tally.proofs.NumbersLemmas.{counted-all, counted-on}
use Rattle.nb_tally.specs.Numbers.{HasCountedAll}
use Rattle.nb_tally.proofs.counting.counts_of.Goals as goal

pub loop-key-init : goal.loop-key-init
loop-key-init c =
    record {
      rest = c.walk-walk.ensures.rest;
      begins = refl;
      shown = [];
      underway = c.walk-walk.ensures.begun.underway;
      are = c.new-counts.ensures.items;
    }

pub loop-key-preserved : goal.loop-key-preserved
loop-key-preserved c =
    counted-on _ _ c.loop-key.walk _ _ _ (c.in-Some.key, c.in-Some.times) _ c.loop-key.invariant c.next_key.ensures
    (search rules) (search rules)

pub returns-clause-counted : goal.returns-clause-counted
returns-clause-counted c =
    subst (λ handle. HasCountedAll c.args.handle handle c.loop-key.counts.items) (sym c.end.ensures)
    (counted-all _ c.walk-walk.result.handle.seat c.walk-walk.result.walk c.loop-key.walk c.next_key.new.self
    c.loop-key.counts.items c.next_key.result (search rules) (search rules) c.next_key.ensures (search rules))
