use Rattle.std.proofs.Common.{◌≡◌, ◌≤◌, vec_capacity}
use Rattle.nb_core.proofs.Seating.{IsDealing}
use Rattle.nb_table.specs.Chains.{new_seat}
use Rattle.nb_table.specs.Views.{new_part}
use Rattle.nb_table.proofs.chain.Chain.new.Given as goal

-- the token is the chain's, with the parts of the seats that aren't dealt yet
abbrev pub invariant-loop-number : goal.invariant-loop-number
invariant-loop-number l =
    let id = l.chain-inside.table.shared.table_id in
    let seats = l.chain-inside.shape.seats in
    (l.rest.table_id ≡ id)
    × IsDealing new_part (new_seat id) seats l.rest.me.0.parts l.dealt.items l._number
    × (seats ≤ vec_capacity l.dealt)
