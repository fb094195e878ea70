-- A counter and its seats, from within and as contracts see them.
use Rattle.std.proofs.Common.{◌≡◌, ◌∙◌, ◌/◌, ◌<◌, ap, sym, arith}
use Rattle.std.proofs.Math.Nat.{mod-lt}
use Rattle.nb_count.specs.Counts.{CountSeatOf, CounterOf, IsOwn}
use Rattle.nb_count.specs.Tallies.{stripe_of}
use Rattle.nb_count.specs.declared.tally.TheConstants.{SPREAD}
use Rattle.nb_count.specs.Inside.{IsCounter, IsSeat, counter_of, seat_of, tally_of}
use Rattle.nb_count.specs.declared.counter.Counter.TheInside as counter
use Rattle.nb_count.specs.declared.counter.CountSeat.TheInside as seat

-- a counter's own seat is of its table
pub own-table :
    (c : counter.Inside) (s : seat.Inside) (whole : CounterOf) (one : CountSeatOf)
    → counter_of c ≡ whole → seat_of s ≡ one → IsOwn whole one
    → s.seat.table_id ≡ c.table.shared.table_id
own-table c s whole one c_is s_is own = ap (λ v. v.counter) s_is ∙ own ∙ sym (ap (λ v. v.id) c_is)

-- and its index is that of one of the counter's stripes
pub own-index :
    (c : counter.Inside) (s : seat.Inside) → IsCounter c → IsSeat s
    → s.seat.table_id ≡ c.table.shared.table_id → (s.index < c.table.shared.table_id.words)
    × (s.index ≡ stripe_of c.table.shared.key.stripes (tally_of s.seat.me.0).number)
own-index c s is_counter is_seat same =
    let number = (tally_of s.seat.me.0).number in
    let stripes : s.seat.table_id.words / SPREAD ≡ c.size.stripes = ap (λ t. t.words / SPREAD) same
    ∙ ap (λ n. n / SPREAD) is_counter.words ∙ omega arith in
    let index : s.index ≡ stripe_of c.size.stripes number = is_seat.index
    ∙ ap (λ n. stripe_of n number) stripes in (
      omega (arith, mod-lt number is_counter.some, is_counter.words),
      index
          ∙ ap (λ z. stripe_of z.stripes number) (sym is_counter.key),
    )
