use Rattle.std.proofs.Common.{◌∙◌, ap}
use Rattle.nb_long.proofs.Tries.{updated-on}
use Rattle.nb_long.proofs.handle.Handle.update.Goals as goal

pub returns-clause-updated : goal.returns-clause-updated
returns-clause-updated g c =
    updated-on
    (ap (λ store. record { map = c.self.inside.map.map; store = store })
    (c.by_handle.ensures ∙ c.deref.ensures)
    ∙ ap (λ handle. handle.map) c.self.view_is)
    (ap (λ handle. handle.seat) c.self.view_is) c.update.ensures.done
