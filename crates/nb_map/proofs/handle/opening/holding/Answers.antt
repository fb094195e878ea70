use Rattle.std.proofs.Common.{ap, subst₂, sym}
use Rattle.std.specs.Arc.{arc_value}
use Rattle.nb_map.proofs.Held.{own-mine, reserve-mine}
use Rattle.nb_map.specs.Maps.{AreMine}
use Rattle.nb_map.proofs.handle.opening.holding.Goals as goal

pub invariant_of-result : goal.invariant_of-result
invariant_of-result c =
    let m = (arc_value c.in-Ok.shared).map in
    let mine = subst₂ AreMine (sym (ap (λ shared. shared.map) c.in-Ok.ensures.ok))
    c.in_ok-seat.ensures c.requires.own in
    record {
      own = own-mine m c.in_ok-seat.seat c.in_ok-seat.reserve mine;
      reserve = reserve-mine m c.in_ok-seat.seat c.in_ok-seat.reserve mine;
    }

pub returns : goal.returns
returns c = (ap (λ shared. shared.map) c.in-Ok.ensures.ok, sym c.in_ok-seat.ensures)
