use Rattle.std.proofs.Common.{subst}
use Rattle.nb_set.specs.Fullness.{HasSampled}
use Rattle.nb_set.specs.Handles.{HandleOf}
use Rattle.nb_set.proofs.Sampled.{sampled}
use Rattle.nb_set.proofs.handle.Handle.occupancy.Goals as goal

pub returns-clause-looked : goal.returns-clause-looked
returns-clause-looked c =
    subst (λ (handle : HandleOf). HasSampled handle.set handle.seat c.occupancy.new.self.seat
    c.occupancy.result)
    c.self.view_is
    (sampled c.occupancy.ensures.looked)
