use Rattle.std.specs.Arc.{arc_value}
use Rattle.nb_map.proofs.Held.{front-mine}
use Rattle.nb_map.proofs.handle.Handle.split.Goals as goal

pub invariant_of-self : goal.invariant_of-self
invariant_of-self c = record {
  own = c.self.invariant.own;
  reserve = front-mine (arc_value c.self.inside.shared).map c.self.inside.reserve
      c.split_last.new.self c.in-Some.seat c.in-Some.ensures.0 c.self.invariant.reserve;
}
