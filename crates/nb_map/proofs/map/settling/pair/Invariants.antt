use Rattle.std.proofs.Common.{◌≡◌, ◌≤◌, length, vec_capacity}
use Rattle.nb_map.proofs.Settled.{ArePairing}
use Rattle.nb_map.proofs.map.settling.pair.Given as goal

abbrev pub invariant-loop-chain : goal.invariant-loop-chain
invariant-loop-chain l =
    ArePairing l.fn.chain_seats.items l.fn.count_seats.items l.chain_seats.items l.count_seats.items
    l.seats.items
    × (length l.fn.chain_seats.items ≤ vec_capacity l.seats)
    × (length l.fn.chain_seats.items ≡ length l.fn.count_seats.items)

abbrev pub decreases-loop-chain : goal.decreases-loop-chain
decreases-loop-chain l = length l.chain_seats.items
