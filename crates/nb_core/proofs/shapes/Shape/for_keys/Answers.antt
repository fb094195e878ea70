use Rattle.std.proofs.Common.{IfOk, subst, sym}
use Rattle.nb_core.specs.Plans.{HasRoomFor}
use Rattle.nb_core.proofs.Keyed.{keys-room}
use Rattle.nb_core.proofs.shapes.Shape.for_keys.Goals as goal

pub returns-clause-room : goal.returns-clause-room
returns-clause-room c =
    subst (λ r. IfOk r (λ p. HasRoomFor p c.args.most)) (sym c.with_room.ensures)
    (keys-room c.args.most c.args.seats c.if-most-gt-MOST_KEYS.false)
