use Rattle.std.proofs.Common.{◌≡◌, [], ◌++◌, map}
use Rattle.std.specs.List.Sorted.{IsPermutation}
use Rattle.nb_table.specs.Chains.{AreOwn}
use Rattle.nb_table.specs.Inside.{forgotten, seat_with}
use Rattle.nb_table.proofs.chain.Chain.gather.Given as goal

-- the token has the parts of all seats but those that are left
abbrev pub invariant-loop-other : goal.invariant-loop-other
invariant-loop-other l =
    let known = map (seat_with l.fn.self.id 0) l.seat.me.0.parts in
    (l.seat.table_id ≡ l.fn.self.id) × (l.seat.me.1 ≡ [])
    × IsPermutation (known ++ map forgotten l.seats.items) (map forgotten l.fn.seats.items)
    × AreOwn l.fn.self l.seats.items

abbrev pub decreases-loop-other : goal.decreases-loop-other
decreases-loop-other l = goal.left-loop-other l
