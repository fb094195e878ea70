use Rattle.std.proofs.Common.{subst}
use Rattle.nb_set.specs.Fullness.{HasSampled}
use Rattle.nb_set.proofs.Sampled.{sampled}
use Rattle.nb_set.proofs.set.LongSet.occupancy.Goals as goal

pub returns : goal.returns
returns c =
    subst (λ set. HasSampled set c.args.seat.now c.occupancy.new.seat c.occupancy.result)
    c.self.view_is
    (sampled c.occupancy.ensures)
