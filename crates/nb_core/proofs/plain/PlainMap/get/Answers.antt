use Rattle.std.proofs.Common.{◌∙◌, ap, sym}
use Rattle.std.specs.FinMap.{get}
use Rattle.nb_core.proofs.Entries.{get_number}
use Rattle.nb_core.proofs.plain.PlainMap.get.Goals as goal

pub returns : goal.returns
returns c = c.copied.ensures ∙ c.get.ensures.value
    ∙ sym (get_number c.self.inside.numbers.entries c.args.key)
    ∙ ap (λ m. get m c.args.key) c.self.view_is
