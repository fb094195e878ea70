use Rattle.std.proofs.Common.{subst}
use Rattle.nb_set.specs.Handles.{HandleOf}
use Rattle.nb_set.specs.Promises.{HasSeenTop}
use Rattle.nb_set.proofs.Promised.{seen-top}
use Rattle.nb_set.proofs.handle.Handle.generation.Goals as goal

pub returns-clause-looked : goal.returns-clause-looked
returns-clause-looked c =
    subst (λ (handle : HandleOf). HasSeenTop handle.set handle.seat c.generation.new.self.seat
    c.generation.result)
    c.self.view_is
    (seen-top c.generation.ensures.looked)
