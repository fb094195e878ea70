-- The seats of a counter are dealt one after another.
use Rattle.std.proofs.Common.{◌≡◌, ◌∙◌, ℕ, zero, suc, ◌*◌, ◌/◌, ap, sym, refl, List, [], ◌∷◌, replicate, length, slice_index, arith}
use Rattle.std.proofs.lemmas.List.{length-replicate}
use Rattle.std.proofs.lemmas.List.Elements.{All-same}
use Rattle.atomic_table.specs.Table.{opening}
use Rattle.nb_core.proofs.Seating.{All-numbered}
use Rattle.nb_count.specs.Counts.{AreOwn, CountSeatOf, CounterOf, IsOwn, new_seat, new_seats}
use Rattle.nb_count.specs.Inside.{IsSeat, seat_of, seat_with, tally_of}
use Rattle.nb_count.specs.Tallies.{AreSums, new_tallies, new_tally, stripe_of}
use Rattle.nb_count.specs.declared.tally.TheConstants.{SPREAD}
use Rattle.nb_count.specs.declared.tally.Size.{Size}
use Rattle.nb_count.proofs.Keeping.{opens}
use Rattle.nb_count.specs.declared.counter.CountSeat.TheInside as seat

-- the seat that is dealt next
module _ (s : seat.Inside) (number : ℕ) (me : s.seat.me ≡ (new_tally number ∷ [], [])) where
  pub dealt-is_seat : (stripes : ℕ) → s.index ≡ stripe_of stripes number
      → s.seat.table_id.words ≡ SPREAD * stripes → IsSeat s
  dealt-is_seat stripes index words =
      let tally : tally_of s.seat.me.0 ≡ new_tally number = ap (λ m. tally_of m.0) me in
      let count : s.seat.table_id.words / SPREAD ≡ stripes
      = ap (λ n. n / SPREAD) words ∙ omega arith in
      record {
        one = me ∙ ap (λ t. (t ∷ [], [])) (sym tally);
        index = index ∙ (λ i. stripe_of (sym count i) (sym tally i).number);
      }

  pub dealt-seat_of : seat_of s ≡ new_seat s.seat.table_id number
  dealt-seat_of = ap (λ m. seat_with s.seat.table_id (tally_of m.0)) me

-- the new seats of a counter are its own
pub dealt-own : (counter : CounterOf) (dealt : List CountSeatOf) (count : ℕ)
    → dealt ≡ new_seats counter.id count → AreOwn counter dealt
dealt-own counter dealt count are =
    All-same (IsOwn counter) dealt (new_seats counter.id count) are
    (All-numbered (IsOwn counter) (new_seat counter.id) 0 count (λ n low high. refl))

-- ---- the first words

zeros-at : (n i : ℕ) → slice_index (replicate n 0) i ≡ 0
zeros-at zero i = refl
zeros-at (suc n) zero = refl
zeros-at (suc n) (suc i) = zeros-at n i

-- so many zeros open a counter
module _ (z : Size) (words : List ℕ) (zeros : words ≡ replicate (SPREAD * z.stripes) 0) where
  pub count-words : length words ≡ SPREAD * z.stripes
  count-words = ap length zeros ∙ length-replicate (SPREAD * z.stripes) 0

  pub opens-zeros : AreSums z (opening words [] (new_tallies z.seats))
  opens-zeros = opens z words count-words
      (λ i. ap (λ ws. slice_index ws i) zeros ∙ zeros-at (SPREAD * z.stripes) i)
