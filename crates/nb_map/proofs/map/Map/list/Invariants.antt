use Rattle.std.proofs.Common.{[]}
use Rattle.nb_map.proofs.Listed.{Lists}
use Rattle.nb_map.proofs.Swept.{HasSweptTo}
use Rattle.nb_map.specs.Steps.{slots_ahead}
use Rattle.nb_map.proofs.map.Map.list.Given as goal

abbrev pub invariant-loop-entry : goal.invariant-loop-entry
invariant-loop-entry l = HasSweptTo l.self l.fn.seat Lists [] l.seat l.walk l.entries.items

abbrev pub decreases-loop-entry : goal.decreases-loop-entry
decreases-loop-entry l = slots_ahead l.self.chain.shape l.walk.place
