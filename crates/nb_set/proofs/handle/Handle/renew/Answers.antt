use Rattle.std.proofs.Common.{IfErr, IfOk, subst}
use Rattle.std.proofs.lemmas.Result.{IfErr-weaker, IfOk-weaker}
use Rattle.nb_set.specs.Handles.{as_handle}
use Rattle.nb_set.specs.Renewing.{HasRenewed, HasTooMany, IsKept}
use Rattle.nb_set.proofs.Renewed.{kept-as, renewed-as, too-many-as}
use Rattle.nb_set.proofs.handle.Handle.renew.Goals as goal

pub returns-clause-renewed : goal.returns-clause-renewed
returns-clause-renewed c =
    let after = c.renew.new.self in
    subst (λ handle. IfOk c.renew.result (λ done. HasRenewed c.args.shape handle (as_handle after)))
    c.self.view_is
    (IfOk-weaker c.renew.result _ _ (λ done. renewed-as c.args.shape c.self.inside.map after)
    c.renew.ensures.renewed)

pub returns-clause-full : goal.returns-clause-full
returns-clause-full c full =
    subst (HasTooMany c.args.shape) c.self.view_is
    (too-many-as c.args.shape c.self.inside.map (c.renew.ensures.full full))

pub returns-clause-kept : goal.returns-clause-kept
returns-clause-kept c =
    let after = c.renew.new.self in
    subst (λ handle. IfErr c.renew.result (λ fault. IsKept handle (as_handle after))) c.self.view_is
    (IfErr-weaker c.renew.result _ _ (λ fault. kept-as c.self.inside.map after) c.renew.ensures.kept)
