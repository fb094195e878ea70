use Rattle.std.proofs.Common.{◌*◌, ◌-◌, None}
use Rattle.nb_map.specs.inside.Walking.{HasGone}
use Rattle.nb_map.specs.Steps.{meeting_steps}
use Rattle.nb_map.specs.declared.steps.walk.Place.TheVariants.{Slot}
use Rattle.nb_map.proofs.steps.walk.next_in.Given as goal

abbrev pub invariant-loop-i : goal.invariant-loop-i
invariant-loop-i l =
    HasGone l.chain.shape l.fn.seat l.seat l.first (Slot l.g l.from) (Slot l.g l.i) None
    ((l.i - l.from) * meeting_steps l.chain.shape)
