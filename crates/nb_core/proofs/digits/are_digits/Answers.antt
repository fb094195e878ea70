use Rattle.std.proofs.Common.{◌∙◌, ◌<◌, length, rules, tests, lt-ltb}
use Rattle.std.specs.Char.{is_ascii_digit}
use Rattle.std.proofs.lemmas.Iterator.{YieldsList-from_slice}
use Rattle.std.proofs.lemmas.Iterator.Search.{all_from_yields_List}
use Rattle.nb_core.proofs.Decimals.{all_digits}
use Rattle.nb_core.proofs.digits.are_digits.Goals as goal

pub returns-then-not-is_empty : goal.returns-then-not-is_empty
returns-then-not-is_empty c =
    let all = all_from_yields_List is_ascii_digit _ _ c.all.result c.all.ensures.ran (YieldsList-from_slice c.args.text.now cc) (λ x b q k. search (rules, tests)) in
    let some : 0 < length c.args.text.now = search rules in
    rw (lt-ltb 0 (length c.args.text.now) some) (all ∙ all_digits c.args.text.now)
