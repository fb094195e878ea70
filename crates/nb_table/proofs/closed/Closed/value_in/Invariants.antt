use Rattle.nb_core.specs.Tables.{AreOthers}
use Rattle.nb_table.specs.Left.{tables_left}
use Rattle.nb_table.proofs.closed.Closed.value_in.Given as goal

-- other keys have the slots of the key's path up to here
abbrev pub invariant-loop-distance : goal.invariant-loop-distance
invariant-loop-distance l = AreOthers l.self.shape (tables_left l.self) l.g l.key l.distance
