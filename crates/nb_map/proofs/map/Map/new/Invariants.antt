use Rattle.std.proofs.Common.{◌≤◌, length, vec_capacity}
use Rattle.nb_table.specs.Inside.{chain_of}
use Rattle.nb_map.proofs.Paired.{IsDealing}
use Rattle.nb_map.proofs.map.Map.new.Given as goal

abbrev pub invariant-loop-chain : goal.invariant-loop-chain
invariant-loop-chain l =
    IsDealing (record { chain = chain_of l.chain-inside; counter = l.counter })
    l.chain_seats.items l.count_seats.items l.seats.items
    × (l.fn.shape.seats ≤ vec_capacity l.chain_seats)
    × (l.fn.shape.seats ≤ vec_capacity l.count_seats)
    × (l.fn.shape.seats ≤ vec_capacity l.seats)

abbrev pub decreases-loop-chain : goal.decreases-loop-chain
decreases-loop-chain l = length l.chain_seats.items
