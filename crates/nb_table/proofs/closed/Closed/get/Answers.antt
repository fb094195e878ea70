use Rattle.std.proofs.Common.{◌≡◌, ◌∙◌}
use Rattle.std.specs.FinMap.{get}
use Rattle.nb_core.specs.History.{map_of}
use Rattle.nb_core.specs.Meaning.{shown_from}
use Rattle.nb_core.specs.Plans.{generations_of}
use Rattle.nb_core.proofs.Theorems.{stands}
use Rattle.nb_table.proofs.Looking.{of-left}
use Rattle.nb_table.proofs.closed.Closed.get.Goals as goal

pub returns : goal.returns
returns c =
    let closed = c.args.self.now in
    let left = c.shown.ensures.left in
    c.shown.ensures.number
    ∙ of-left closed left
    (λ t. shown_from closed.shape t c.args.key 0 (generations_of closed.shape)
    ≡ get (map_of closed.history) c.args.key)
    (stands closed.shape c.shown.ensures.plan closed.history left.legal c.args.key c.known.ensures)
