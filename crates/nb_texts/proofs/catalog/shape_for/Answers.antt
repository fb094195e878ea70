use Rattle.std.proofs.Common.{◌≡◌, true, le-leb}
use Rattle.std.specs.Prelude.{Ok, Result, nat_le}
use Rattle.nb_core.specs.Plans.{Plan, plan_for_keys}
use Rattle.nb_core.specs.declared.shapes.ShapeFault.{ShapeFault}
use Rattle.nb_core.specs.declared.shapes.TheConstants.{MOST_KEYS}
use Rattle.nb_texts.specs.Memory.{shape_with_room}
use Rattle.nb_texts.specs.declared.catalog.TheConstants.{SEATS}
use Rattle.nb_texts.proofs.catalog.shape_for.Goals as goal

pub returns-clause-shape : goal.returns-clause-shape
unfolding shape_with_room
returns-clause-shape c =
    let within : nat_le c.args.room MOST_KEYS ≡ true = le-leb c.args.room MOST_KEYS c.requires in
    let both : ◌≡◌ {A = Result Plan ShapeFault} (Ok c.in-Ok.shape) (Ok (plan_for_keys c.args.room SEATS))
    = rw within at c.in-Ok.ensures.shape in
    cc
