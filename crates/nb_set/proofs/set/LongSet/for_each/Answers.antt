use Rattle.std.proofs.Common.{refl, rules}
use Rattle.nb_set.proofs.Swept.{sweep-all, sweep-begun, sweep-kept}
use Rattle.nb_set.proofs.set.LongSet.for_each.Goals as goal

pub loop-key-init : goal.loop-key-init
loop-key-init g c = (c.requires.callable, sweep-begun c.walk-walk.ensures)

pub loop-key-preserved : goal.loop-key-preserved
loop-key-preserved g c = (
  c.show.ensures.callable,
  sweep-kept c.in-Some.key c.show.new.visit c.loop-key.invariant.1 c.in-Some.ensures
      (refl, c.show.ensures.stepped),
)

pub returns : goal.returns
returns g c = sweep-all {walk' = c.next_key.new.walk} c.loop-key.invariant.1 (search rules)
