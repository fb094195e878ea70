-- What is in a counter and its seats, and how it is seen.
use Rattle.std.specs.Prelude.{◌≡◌, ◌*◌, ◌/◌, ◌≤◌, List, [], ◌∷◌}
use Rattle.atomic_table.specs.Seated.{TableId}
use Rattle.nb_core.specs.declared.shapes.TheConstants.{MAX_STRIPES}
use Rattle.nb_count.specs.Counts.{CountSeatOf, CounterOf}
use Rattle.nb_count.specs.Tallies.{new_tally, stripe_of}
use Rattle.nb_count.specs.declared.counter.Counter.TheInside as counter
use Rattle.nb_count.specs.declared.counter.CountSeat.TheInside as seat
use Rattle.nb_count.specs.declared.tally.TheConstants.{SPREAD}
use Rattle.nb_count.specs.declared.tally.Tally.{Tally}

abbrev pub counter_of : counter.Inside → CounterOf
counter_of c = record {
  id = c.table.shared.table_id;
  stripes = c.size.stripes;
  seats = c.size.seats;
}

-- the table is the counter's, with room for its stripes
pub record IsCounter (c : counter.Inside) : Type 0 where
  pub key : c.table.shared.key ≡ c.size
  pub words : c.table.shared.table_id.words ≡ SPREAD * c.size.stripes
  pub slots : c.table.shared.table_id.slots ≡ 0
  pub some : 1 ≤ c.size.stripes
  pub few : c.size.stripes ≤ MAX_STRIPES
  pub seated : 1 ≤ c.size.seats

-- the one tally of a seat
abbrev pub tally_of : List Tally → Tally
tally_of [] = new_tally 0
tally_of (t ∷ ts) = t

-- a counter's seat of which this tally is known
abbrev pub seat_with : TableId → Tally → CountSeatOf
seat_with counter t =
    record { counter = counter; number = t.number; added = t.added; adds = t.adds; steps = t.steps }

abbrev pub seat_of : seat.Inside → CountSeatOf
seat_of c = seat_with c.seat.table_id (tally_of c.seat.me.0)

-- the seat knows one tally, and the index of its stripe
pub record IsSeat (c : seat.Inside) : Type 0 where
  pub one : c.seat.me ≡ (tally_of c.seat.me.0 ∷ [], [])
  pub index : c.index ≡ stripe_of (c.seat.table_id.words / SPREAD) (tally_of c.seat.me.0).number
