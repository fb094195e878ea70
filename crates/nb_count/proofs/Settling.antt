-- The sum by a token that has all tallies, and the tokens that are put together for it.
use Rattle.std.proofs.Common.{◌≡◌, ◌∙◌, ℕ, ◌*◌, ◌/◌, ◌<◌, ap, sym, refl, List, [], ◌∷◌, ◌++◌, length, ◌+ℤ◌, slice_index, slice_set, arith}
use mathlib.Core.Option.{none}
use Rattle.std.proofs.lemmas.Int.{ints}
use Rattle.std.proofs.lemmas.List.{length-set, set-get_or}
use Rattle.std.proofs.lemmas.List.Sorted.{length_permutation}
use Rattle.std.specs.List.Sorted.{IsPermutation}
use Rattle.atomic_table.specs.Table.{Allows, Me, keeps, step}
use Rattle.nb_core.proofs.Seating.{all-there, and_then, apart, back}
use Rattle.nb_count.specs.Counts.{CountSeatOf, total_of}
use Rattle.nb_count.specs.Inside.{IsSeat, seat_of, seat_with, tally_of}
use Rattle.nb_count.specs.Tallies.{AreSums, HasSummed, added_by, all_of, served, stripe_of, wrapped}
use Rattle.nb_count.specs.declared.counter.CountSeat.TheInside as seat
use Rattle.nb_count.specs.declared.tally.TheConstants.{SPREAD}
use Rattle.nb_count.specs.declared.tally.Size.{Size}
use Rattle.nb_count.specs.declared.tally.Tally.{Tally}
use Rattle.nb_count.proofs.Sums.{total-append, total-permutation}

-- ---- a load by a token that has all tallies

-- it leaves all as it is, and the word is what the seats have added that it serves
pub allows-sum :
    (z : Size) (slots id : ℕ) (me : Me (Unit {0}) (List Tally)) (index : ℕ)
    → index < SPREAD * z.stripes → length me.0 ≡ z.seats
    → Allows (AreSums z) slots id me index (λ n. n)
    (HasSummed z.stripes (step slots index 0 0 none) me)
allows-sum z slots id me index within all s rule homes at word =
    let there = apart (λ ts. ts) s.views id me.0 at in
    let same : IsPermutation (all_of s.views) (all_of (slice_set s.views id me.0))
    = and_then there.is (back (there.after me.0)) in
    let whole = all-there (λ ts. ts) s.views id me.0 at (rule.seats ∙ sym all) in (
      me.0,
      keeps,
      tt,
      record {
        words = length-set s.words index _ ∙ rule.words;
        sums = λ i below. ap (λ w. slice_index w i) (set-get_or s.words index 0)
            ∙ rule.sums i below
            ∙ ap wrapped (total-permutation (served z.stripes i) (all_of s.views)
            (all_of (slice_set s.views id me.0)) same);
        seats = length_permutation (all_of s.views) (all_of (slice_set s.views id me.0)) same
            ∙ rule.seats;
      },
      (
        refl,
        rule.sums index within
            ∙ ap wrapped (total-permutation (served z.stripes index) (all_of s.views) me.0 whole),
      ),
    )

-- ---- one token after another

-- a seat whose tally the token has now adds as much as before
pub sum-moved :
    (left : List CountSeatOf) (s : seat.Inside) (others : List Tally) → IsSeat s
    → total_of left +ℤ added_by (s.seat.me.0 ++ others)
    ≡ total_of (left ++ seat_of s ∷ []) +ℤ added_by others
sum-moved left s others is_seat =
    let own : added_by (s.seat.me.0 ++ others) ≡ added_by (tally_of s.seat.me.0 ∷ others)
    = ap (λ (m : Me (Unit {0}) (List Tally)). added_by (m.0 ++ others)) is_seat.one in
    omega (
      arith,
      ints,
      own,
      total-append (λ (seat : CountSeatOf). seat.added) left (seat_of s ∷ []),
    )

-- and so it is with the last seat, where the token has no other tally
pub sum-last :
    (left : List CountSeatOf) (s : seat.Inside) → IsSeat s
    → total_of left +ℤ added_by s.seat.me.0 ≡ total_of (left ++ seat_of s ∷ [])
sum-last left s is_seat =
    let own : added_by s.seat.me.0 ≡ added_by (tally_of s.seat.me.0 ∷ [])
    = ap (λ (m : Me (Unit {0}) (List Tally)). added_by m.0) is_seat.one in
    omega (
      arith,
      ints,
      own,
      total-append (λ (seat : CountSeatOf). seat.added) left (seat_of s ∷ []),
    )

-- the seat with the same place, token and tally is the same seat
pub same-seat :
    (old new : seat.Inside) → IsSeat old → new.index ≡ old.index
    → new.seat.table_id ≡ old.seat.table_id → new.seat.me ≡ old.seat.me
    → IsSeat new × (seat_of new ≡ seat_of old)
same-seat old new is_seat index table me = (
  record {
    one = me ∙ is_seat.one
        ∙ ap (λ (m : Me (Unit {0}) (List Tally)). (tally_of m.0 ∷ [], [])) (sym me);
    index = index ∙ is_seat.index
        ∙ (λ i. stripe_of ((sym table i).words / SPREAD) (tally_of (sym me i).0).number);
  },
  λ i. seat_with (table i) (tally_of (me i).0),
)
