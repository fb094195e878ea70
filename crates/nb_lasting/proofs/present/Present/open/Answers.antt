use Rattle.std.proofs.Common.{subst, sym}
use Rattle.nb_lasting.specs.Lasting.{HasSlots}
use Rattle.nb_lasting.proofs.present.Present.open.Goals as goal

pub returns-clause-room : goal.returns-clause-room
returns-clause-room c =
    subst (HasSlots c.args.keys) (sym c.in_ok-handle.ensures.made.shape) c.shape_for.ensures.slots
