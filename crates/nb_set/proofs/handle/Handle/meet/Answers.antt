use Rattle.std.proofs.Common.{subst₂}
use Rattle.nb_set.specs.Handles.{HandleOf}
use Rattle.nb_set.specs.Promises.{HasMet}
use Rattle.nb_set.proofs.Promised.{met}
use Rattle.nb_set.proofs.handle.Handle.meet.Goals as goal

pub returns-clause-here : goal.returns-clause-here
returns-clause-here c =
    subst₂ (λ (here there : HandleOf). HasMet here.set there.seat here.seat c.meet.new.self.seat)
    c.self.view_is c.other.view_is
    (met c.meet.ensures.here)

pub returns-clause-there : goal.returns-clause-there
returns-clause-there c =
    subst₂ (λ (here there : HandleOf). HasMet here.set here.seat there.seat c.meet.new.other.seat)
    c.self.view_is c.other.view_is
    (met c.meet.ensures.there)
