use Rattle.std.proofs.Common.{IfOk, subst}
use Rattle.std.proofs.lemmas.Result.{IfOk-weaker}
use Rattle.nb_set.specs.Handles.{HandleOf, as_handle, seats_of}
use Rattle.nb_set.specs.Settling.{HaveSettled}
use Rattle.nb_set.proofs.Settled.{have-settled}
use Rattle.nb_set.proofs.handle.Handle.settle.Goals as goal

pub returns-clause-settled : goal.returns-clause-settled
returns-clause-settled c =
    let before = c.self.inside.map in
    let after = c.settle.new.self in
    subst (λ (handle : HandleOf). IfOk c.settle.result (HaveSettled handle.set (seats_of handle)
    (seats_of (as_handle after)))) c.self.view_is
    (IfOk-weaker c.settle.result _ _
    (λ size settled. have-settled (as_handle before).set (seats_of (as_handle before))
    (seats_of (as_handle after)) size settled) c.settle.ensures.settled)
