use Rattle.std.proofs.Common.{◌∙◌, ◌+◌, ◌<◌, ap, arith, length}
use Rattle.std.proofs.lemmas.Bool.Decides.{nat_tests}
use Rattle.nb_texts.proofs.SourceLemmas.{lines-closed, lines-open}
use Rattle.nb_texts.proofs.source.count_lines.Goals as goal

pub returns-then-text-eq10 : goal.returns-then-text-eq10
returns-then-text-eq10 c =
    let some : 0 < length c.args.text.now = grind (arith, nat_tests, c.if-is_empty.false, c.is_empty.ensures) in
    c.newlines_in-newlines.ensures ∙ lines-closed c.args.text.now some c.if-text-eq10.true

pub returns-else-text-eq10 : goal.returns-else-text-eq10
returns-else-text-eq10 c =
    let some : 0 < length c.args.text.now = grind (arith, nat_tests, c.if-is_empty.false, c.is_empty.ensures) in
    ap (λ n. n + 1) c.newlines_in-newlines.ensures
    ∙ lines-open c.args.text.now some c.if-text-eq10.false
