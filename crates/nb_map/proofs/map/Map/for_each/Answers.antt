use Rattle.std.proofs.Common.{refl, rules}
use Rattle.nb_map.proofs.Swept.{sweep-all, sweep-begun, sweep-kept}
use Rattle.nb_map.proofs.map.Map.for_each.Goals as goal

pub loop-entry-init : goal.loop-entry-init
loop-entry-init g c = (c.requires.callable, sweep-begun c.requires.own c.walk-walk.ensures)

pub loop-entry-preserved : goal.loop-entry-preserved
loop-entry-preserved g c =
    let entry = c.in-Some.entry in (
      c.show.ensures.callable,
      sweep-kept c.requires.own entry.0 entry.1 c.show.new.visit c.loop-entry.invariant.1
          (rw c.in-Some.is at c.next_key.ensures) (refl, c.show.ensures.stepped),
    )

pub returns : goal.returns
returns g c = sweep-all c.requires.own {walk' = c.next_key.new.walk} c.loop-entry.invariant.1
    (search rules)
