use Rattle.std.proofs.Common.{refl}
use Rattle.std.proofs.lemmas.Result.{IfOk-weaker}
use Rattle.nb_script.proofs.RuleLemmas.{app_with}
use Rattle.nb_script.proofs.options.with_map.Goals as goal

pub returns : goal.returns
returns c =
    let bits = app_with _ c.in_ok-arg.field-0 c.number_option.result _ _
    c.in_ok-arg.ensures refl c.number_option.ensures.rule c.number_option.ensures.local in
    let generations = app_with _ c.in_ok-arg-2.field-0 c.number_option-2.result _ _
    c.in_ok-arg-2.ensures bits c.number_option-2.ensures.rule c.number_option-2.ensures.local in
    let seats = app_with _ c.in_ok-arg-3.field-0 c.number_option-3.result _ _
    c.in_ok-arg-3.ensures generations c.number_option-3.ensures.rule c.number_option-3.ensures.local
    in
    IfOk-weaker c.arg-4.result _ _ (λ command added.
    app_with _ command c.number_option-4.result _ _ added seats c.number_option-4.ensures.rule
    c.number_option-4.ensures.local) c.arg-4.ensures
