use Rattle.std.proofs.Common.{Ok, subst}
use Rattle.nb_set.specs.Handles.{HandleOf}
use Rattle.nb_set.specs.Log.{Remove}
use Rattle.nb_set.specs.Promises.{HasWritten}
use Rattle.nb_set.proofs.Promised.{removed}
use Rattle.nb_set.proofs.handle.Handle.remove.Goals as goal

pub returns-clause-wrote : goal.returns-clause-wrote
returns-clause-wrote g c =
    subst (λ (handle : HandleOf). HasWritten handle.set (Remove c.args.key) handle.seat
    c.remove.new.self.seat
    (Ok c.is_some.result)) c.self.view_is
    (removed c.args.key c.remove.result c.is_some.result c.is_some.ensures c.remove.ensures.wrote)
