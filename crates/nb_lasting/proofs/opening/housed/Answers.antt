use Rattle.std.proofs.Common.{Some, ap, length, arith}
use Rattle.std.proofs.lemmas.List.{length-map}
use Rattle.nb_core.proofs.Seating.{moved-count}
use Rattle.nb_lasting.proofs.opening.housed.Goals as goal

pub push_reserved-requires : goal.push_reserved-requires
push_reserved-requires c =
    omega (
      arith,
      c.loop-handle.slots.ok,
      c.loop-handle.invariant.3,
      moved-count c.loop-handle.invariant.2,
      length-map c.args.handles.items Some,
      ap length c.in-Some.ensures.steps.0,
    )
