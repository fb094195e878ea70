use Rattle.std.proofs.Common.{Ok, subst}
use Rattle.nb_set.specs.Log.{Remove}
use Rattle.nb_set.specs.Promises.{HasWritten}
use Rattle.nb_set.proofs.Promised.{removed}
use Rattle.nb_set.proofs.set.LongSet.remove.Goals as goal

pub returns : goal.returns
returns g c =
    subst (λ set. HasWritten set (Remove c.args.key) c.args.seat.now c.remove.new.seat (Ok
    c.is_some.result)) c.self.view_is
    (removed c.args.key c.remove.result c.is_some.result c.is_some.ensures c.remove.ensures)
