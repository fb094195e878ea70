use Rattle.std.proofs.Common.{◌≡◌, ◌≤◌, vec_capacity}
use Rattle.nb_core.proofs.Seating.{IsDealing}
use Rattle.nb_count.specs.Counts.{new_seat}
use Rattle.nb_count.specs.Tallies.{new_tally}
use Rattle.nb_count.proofs.counter.Counter.new.Given as goal

-- the token is the counter's, with the tallies of the seats that aren't dealt yet
abbrev pub invariant-loop-number : goal.invariant-loop-number
invariant-loop-number l =
    let id = l.counter-inside.table.shared.table_id in
    (l.rest.table_id ≡ id)
    × IsDealing new_tally (new_seat id) l.seats l.rest.me.0 l.dealt.items l.number
    × (l.seats ≤ vec_capacity l.dealt)
