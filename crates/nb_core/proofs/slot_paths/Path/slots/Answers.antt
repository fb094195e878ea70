use Rattle.std.proofs.Common.{◌<◌, arith}
use Rattle.std.proofs.lemmas.Nat.{pow_pos}
use Rattle.nb_core.specs.Plans.{size_of}
use Rattle.nb_core.proofs.slot_paths.Path.slots.Goals as goal

pub returns : goal.returns
returns c p g k path =
    let some : 0 < size_of p g = pow_pos _ in
    omega (arith, path.last, some)
