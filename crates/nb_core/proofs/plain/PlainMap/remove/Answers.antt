use Rattle.std.proofs.Common.{◌∙◌, ap}
use Rattle.std.specs.FinMap.{remove}
use Rattle.nb_core.proofs.Entries.{removed}
use Rattle.nb_core.proofs.plain.PlainMap.remove.Goals as goal

pub returns : goal.returns
returns c = removed c.self.inside.numbers.entries c.remove.new.self.entries c.args.key
    c.remove.ensures.updates.0 ∙ ap (λ m. remove m c.args.key) c.self.view_is
