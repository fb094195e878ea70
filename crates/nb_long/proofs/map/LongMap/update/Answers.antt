use Rattle.std.proofs.Common.{ap₂, refl}
use Rattle.nb_long.proofs.Tries.{updated-on}
use Rattle.nb_long.proofs.map.LongMap.update.Goals as goal

pub returns : goal.returns
returns g c =
    updated-on
    (ap₂ (λ m store. record { map = m; store = store }) c.parts.ensures.map c.parts.ensures.store)
    refl c.update.ensures.done
