use Rattle.std.proofs.Common.{◌∙◌, ap, slice_index}
use Rattle.nb_table.proofs.Looking.{word-at}
use Rattle.nb_table.proofs.closed.Closed.word.Goals as goal

pub returns : goal.returns
returns c = word-at _ c.args.index c.word.result c.word.ensures
    ∙ ap (λ v. slice_index v.words c.args.index) c.self.view_is
