use Rattle.std.proofs.Common.{arith, rules}
use Rattle.nb_script.proofs.RuleLemmas.{narrowed, rule_checked}
use Rattle.nb_script.proofs.options.number_option.Goals as goal

pub returns-clause-rule : goal.returns-clause-rule
returns-clause-rule c =
    rule_checked c.option.result c.value_parser-2.result c.default_value.result _ _ _ _
    c.option.ensures.rule c.value_parser-2.ensures.others c.value_parser-2.ensures.given
    (narrowed _ _ _ _ c.args.range.0 c.args.range.1 c.value_parser.ensures
    (search rules) (search rules) (omega arith) (omega arith) c.range.ensures)
    c.default_value.ensures
