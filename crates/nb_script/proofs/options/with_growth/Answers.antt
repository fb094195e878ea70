use Rattle.std.proofs.Common.{refl}
use Rattle.std.proofs.lemmas.Result.{IfOk-weaker}
use Rattle.nb_script.proofs.RuleLemmas.{app_with}
use Rattle.nb_script.proofs.options.with_growth.Goals as goal

pub returns : goal.returns
returns c =
    let reprobes = app_with _ c.in_ok-arg.field-0 c.number_option.result _ _
    c.in_ok-arg.ensures refl c.number_option.ensures.rule c.number_option.ensures.local in
    let chunk = app_with _ c.in_ok-arg-2.field-0 c.number_option-2.result _ _
    c.in_ok-arg-2.ensures reprobes c.number_option-2.ensures.rule c.number_option-2.ensures.local in
    IfOk-weaker c.arg-3.result _ _ (λ command added.
    app_with _ command c.option.result _ _ added chunk c.option.ensures.rule c.option.ensures.local)
    c.arg-3.ensures
