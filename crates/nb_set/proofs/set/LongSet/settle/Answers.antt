use Rattle.std.proofs.Common.{subst}
use Rattle.std.proofs.lemmas.Result.{IfOk-weaker}
use Rattle.nb_set.specs.Settling.{HaveSettled}
use Rattle.nb_set.proofs.Settled.{have-settled}
use Rattle.nb_set.proofs.set.LongSet.settle.Goals as goal

pub returns-clause-settled : goal.returns-clause-settled
returns-clause-settled c =
    IfOk-weaker c.settle.result _ _
    (λ size settled. subst (λ set. HaveSettled set c.args.seats.now.items
    c.settle.new.seats.items size) c.self.view_is
    (have-settled (record { map = c.self.inside.map }) c.args.seats.now.items
    c.settle.new.seats.items size settled))
    c.settle.ensures.settled
