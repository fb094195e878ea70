-- How contracts see a counter and its seats.
use Rattle.std.specs.Prelude.{◌≡◌, ℕ, ◌+◌, ℤ, pos, ◌+ℤ◌, List, map, All}
use Rattle.std.specs.List.{range_with_len}
use Rattle.atomic_table.specs.Seated.{TableId}
use Rattle.nb_count.specs.Tallies.{total}

-- a counter: which one it is, and how many stripes and seats it was made with
pub record CounterOf : Type 0 where
  pub id : TableId
  pub stripes : ℕ
  pub seats : ℕ

-- a counter's seat: which counter's, its number, what it has added in all, and how many adding
-- steps and how many steps it has made
pub record CountSeatOf : Type 0 where
  pub counter : TableId
  pub number : ℕ
  pub added : ℤ
  pub adds : ℕ
  pub steps : ℕ

-- the seat is this counter's
abbrev pub IsOwn : CounterOf → CountSeatOf → Type 0
IsOwn counter seat = seat.counter ≡ counter.id

-- all these seats are this counter's
abbrev pub AreOwn : CounterOf → List CountSeatOf → Type 0
AreOwn counter seats = All (IsOwn counter) seats

-- a counter's seat that has made no step
abbrev pub new_seat : TableId → ℕ → CountSeatOf
new_seat id number = record { counter = id; number = number; added = pos 0; adds = 0; steps = 0 }

-- so many of them, numbered by their places
abbrev pub new_seats : TableId → ℕ → List CountSeatOf
new_seats id count = map (new_seat id) (range_with_len 0 count)

-- the seat after one adding step
abbrev pub with_added : ℤ → CountSeatOf → CountSeatOf
with_added amount seat = record seat {
  added = seat.added +ℤ amount;
  adds = seat.adds + 1;
  steps = seat.steps + 1;
}

-- the seat after so many looks, which change no word: it has made no adding step
abbrev pub with_looks : ℕ → CountSeatOf → CountSeatOf
with_looks count seat = record seat { steps = seat.steps + count }

-- what the seats have added in all
abbrev pub total_of : List CountSeatOf → ℤ
total_of seats = total (λ seat. seat.added) seats
