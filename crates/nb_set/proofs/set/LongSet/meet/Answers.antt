use Rattle.std.proofs.Common.{subst}
use Rattle.nb_set.specs.Promises.{HasMet}
use Rattle.nb_set.proofs.Promised.{met}
use Rattle.nb_set.proofs.set.LongSet.meet.Goals as goal

pub returns-clause-a : goal.returns-clause-a
returns-clause-a c =
    subst (λ set. HasMet set c.args.b.now c.args.a.now c.meet.new.a) c.self.view_is
    (met c.meet.ensures.a)

pub returns-clause-b : goal.returns-clause-b
returns-clause-b c =
    subst (λ set. HasMet set c.args.a.now c.args.b.now c.meet.new.b) c.self.view_is
    (met c.meet.ensures.b)
