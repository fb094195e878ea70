use Rattle.std.proofs.Common.{subst}
use Rattle.nb_set.specs.Handles.{HandleOf}
use Rattle.nb_set.specs.Promises.{HasLookedUp}
use Rattle.nb_set.proofs.Promised.{looked-up}
use Rattle.nb_set.proofs.handle.Handle.contains.Goals as goal

pub returns-clause-looked_up : goal.returns-clause-looked_up
returns-clause-looked_up c =
    let (number, is, got) = c.contains_key.ensures.got in
    subst (λ (handle : HandleOf). HasLookedUp handle.set c.args.key handle.seat
    c.contains_key.new.self.seat
    c.contains_key.result) c.self.view_is
    (looked-up c.args.key number c.contains_key.result is got)
