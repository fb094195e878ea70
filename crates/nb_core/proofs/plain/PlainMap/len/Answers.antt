use Rattle.std.proofs.Common.{◌∙◌, ap, sym}
use Rattle.std.specs.FinMap.{len}
use Rattle.nb_core.proofs.Entries.{in_order, len_in_order}
use Rattle.nb_core.proofs.plain.PlainMap.len.Goals as goal

pub returns : goal.returns
returns c = c.len.ensures.len
    ∙ sym (len_in_order _ (in_order c.self.inside.numbers.entries c.len.ensures.ordered))
    ∙ ap (λ m. len m) c.self.view_is
