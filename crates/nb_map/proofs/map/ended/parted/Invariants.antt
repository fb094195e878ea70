use Rattle.std.proofs.Common.{◌≤◌, length, map, reverse, vec_capacity}
use Rattle.nb_core.proofs.Seating.{AreMoved}
use Rattle.nb_map.proofs.map.ended.parted.Given as goal

abbrev pub invariant-loop-seat : goal.invariant-loop-seat
invariant-loop-seat l =
    AreMoved (λ seat. seat.chain) (map (λ seat. seat.chain) l.fn.seats.items) l.chain_seats.items
    (reverse l.seats.items)
    × AreMoved (λ seat. seat.count) (map (λ seat. seat.count) l.fn.seats.items) l.count_seats.items
    (reverse l.seats.items)
    × (length l.fn.seats.items ≤ vec_capacity l.chain_seats)
    × (length l.fn.seats.items ≤ vec_capacity l.count_seats)
    × (length l.fn.seats.items ≤ vec_capacity l.seats)

abbrev pub decreases-loop-seat : goal.decreases-loop-seat
decreases-loop-seat l = length l.seats.items
