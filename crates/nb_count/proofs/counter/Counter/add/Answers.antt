use Rattle.nb_count.proofs.Keeping.{allows-add}
use Rattle.nb_count.proofs.Views.{own-table, own-index}
use Rattle.nb_count.proofs.counter.Counter.add.Goals as goal

pub fetch_add-requires : goal.fetch_add-requires
fetch_add-requires c =
    let same = own-table c.self.inside c.seat.inside _ _ c.self.view_is c.seat.view_is
    c.requires.own in
    let index = own-index c.self.inside c.seat.inside c.self.invariant c.seat.invariant same in
    (same, index.0, allows-add _ _ _ _ _ _ _ c.seat.invariant.one c.cast_unsigned.type_inv index.1)
