use Rattle.std.proofs.Common.{◌∙◌, ap, subst, sym}
use Rattle.std.specs.Arc.{arc_value}
use Rattle.nb_map.proofs.Held.{joined-mine}
use Rattle.nb_map.specs.Maps.{AreMine}
use Rattle.nb_map.proofs.handle.Handle.join.Goals as goal
use Rattle.nb_map.proofs.handle.Handle.join.Goals.{in-Ok, in-Err}

pub invariant_of-self : goal.invariant_of-self
invariant_of-self c =
    let m = (arc_value c.self.inside.shared).map in
    let n = (arc_value c.other.inside.shared).map in
    record {
      own = c.self.invariant.own;
      reserve =
          elim c.match-join.branch [
            | in-Ok w ↦
                joined-mine m n c.self.inside.reserve c.join.new.self c.other.inside.seat
                c.other.inside.reserve
                (ap (λ handle. handle.map) c.other.view_is ∙ c.requires.one
                ∙ sym (ap (λ handle. handle.map) c.self.view_is))
                w.in-Ok.ensures.joined c.self.invariant.reserve c.other.invariant.own
                c.other.invariant.reserve
            | in-Err w ↦ subst (AreMine m) (sym w.in-Err.ensures.back.0) c.self.invariant.reserve
          ];
    }
