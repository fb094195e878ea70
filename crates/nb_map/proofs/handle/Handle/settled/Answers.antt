use Rattle.std.proofs.Common.{ap, subst₂}
use Rattle.std.specs.Arc.{arc_value}
use Rattle.nb_map.proofs.Held.{own-mine, reserve-mine}
use Rattle.nb_map.specs.Maps.{AreMine}
use Rattle.nb_map.proofs.handle.Handle.settled.Goals as goal

pub invariant_of-handle : goal.invariant_of-handle
invariant_of-handle c =
    let m = (arc_value c.self.inside.shared).map in
    let mine = subst₂ AreMine (ap (λ shared. shared.map) c.deref.ensures) c.spread-seat.ensures
    c.settle_in-size.ensures.own in
    record {
      own = own-mine m c.spread-seat.result.0 c.spread-seat.result.1 mine;
      reserve = reserve-mine m c.spread-seat.result.0 c.spread-seat.result.1 mine;
    }
