use Rattle.std.proofs.Common.{◌≡◌, ◌≤◌, length, vec_capacity}
use Rattle.std.specs.Vec.Iter.{into_iter_items}
use Rattle.nb_lasting.specs.Closing.{HaveComeTo}
use Rattle.nb_lasting.specs.Shared.{FitsLanes}
use Rattle.nb_lasting.proofs.closing.take_all_as_guests.Given as goal

abbrev pub invariant-loop-guest : goal.invariant-loop-guest
invariant-loop-guest g l =
    (goal.iterator-loop-guest g).can_next l.guest-iterator
    × (goal.iterator-loop-guest g).is_finite l.guest-iterator
    × (l.token.table_id ≡ l.fn.token.table_id)
    × (l.fn.hall.table.shared.key.seats ≤ vec_capacity l.handles)
    × (1 ≤ length l.handles.items → FitsLanes l.fn.hall.table.shared.key.seats l.token.me.0)
    × HaveComeTo l.fn.guests.items (into_iter_items l.guest-iterator) l.token.me l.handles.items
