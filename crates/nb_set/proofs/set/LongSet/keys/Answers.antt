use Rattle.std.proofs.Common.{inr, subst}
use Rattle.std.proofs.lemmas.Result.{IfOk-weaker}
use Rattle.nb_set.specs.Renewing.{HaveOnlyAsked}
use Rattle.nb_set.proofs.Listed.{listed-as}
use Rattle.nb_set.proofs.Renewed.{asked-as}
use Rattle.nb_set.proofs.set.LongSet.keys.Goals as goal

pub returns-clause-listed : goal.returns-clause-listed
returns-clause-listed c =
    IfOk-weaker c.keys_listed.result _ _
    (λ keys found.
    let listed = rw found.1 at c.entries-listed.ensures.listed in
    listed-as c.args.seats.now.items c.entries-listed.new.seats.items found.0.items keys.items
    found.2
    listed)
    c.keys_listed.ensures.keys

pub returns-clause-asked : goal.returns-clause-asked
returns-clause-asked c =
    inr (subst (λ set. HaveOnlyAsked set c.args.seats.now.items c.entries-listed.new.seats.items)
    c.self.view_is
    (asked-as (record { map = c.self.inside.map }) c.args.seats.now.items
    c.entries-listed.new.seats.items c.entries-listed.ensures.read))
