use Rattle.std.proofs.Common.{◌∙◌, ap, slice_index, arith}
use Rattle.nb_core.specs.Laws.{AreLinked}
use Rattle.nb_table.specs.Left.{tables_left}
use Rattle.nb_table.proofs.Looking.{lawful, law-left, word-at}
use Rattle.nb_table.proofs.closed.Closed.top.Goals as goal
use Rattle.nb_core.proofs.Theorems.{linked}

pub overflow_cast-result : goal.overflow_cast-result
overflow_cast-result c =
    let closed = c.args.self.now in
    let is = lawful c.self.inside closed c.self.invariant c.self.view_is in
    let links = law-left closed is AreLinked linked in
    let word = word-at _ 0 c.word.result c.word.ensures
    ∙ ap (λ v. slice_index v.words 0) c.self.view_is in
    omega (arith, links.within (tables_left closed).top links.top, is.plan.tables.1, word)

pub returns : goal.returns
returns c = word-at _ 0 c.word.result c.word.ensures
    ∙ ap (λ v. slice_index v.words 0) c.self.view_is
