use Rattle.std.proofs.Common.{◌∙◌, ◌<◌, ◌-◌, ap, subst, sym, arith}
use Rattle.nb_core.specs.Plans.{Header, header_place, word_count}
use Rattle.nb_table.proofs.Looking.{lawful}
use Rattle.nb_table.proofs.closed.Closed.is_installed.Goals as goal
use Rattle.nb_core.proofs.Theorems.{indices_are_distinct}

pub word-requires : goal.word-requires
word-requires c =
    let p = c.args.self.now.shape in
    let is = lawful c.self.inside c.args.self.now c.self.invariant c.self.view_is in
    let index = c.header_word_place.ensures ∙ ap (λ v. header_place v.shape (c.args.g - 1) 0)
    c.self.view_is in
    subst (λ x. x < word_count p) (sym index)
    ((indices_are_distinct p is.plan).below (Header (c.args.g - 1) 0) (omega arith, omega arith))
