-- One token gathers the tallies of all seats, and the words that are left stand for their sum.
use Rattle.std.proofs.Common.{◌≡◌, ◌∙◌, ℕ, zero, suc, ◌+◌, ◌*◌, ◌%◌, ◌^◌, ◌<◌, ◌≤◌, ap, sym, List, [], ◌∷◌, map, length, get_or, slice_index, ℤ, ◌+ℤ◌, add-one, refl, arith}
use lib.ListN.{get_elem?}
use mathlib.Core.Option.{some, some-injective, some-ne-none}
use Rattle.std.proofs.Math.Nat.{add-mod, mod-add-mod, mod-eq_of_lt}
use Rattle.std.proofs.lemmas.List.{length-map}
use Rattle.std.proofs.lemmas.List.Sorted.{length_permutation}
use Rattle.std.specs.List.Sorted.{IsPermutation}
use Rattle.atomic_table.specs.Seated.{TableId}
use Rattle.atomic_table.specs.Table.{Final, Seen, State}
use Rattle.nb_core.proofs.Seating.{all-there}
use Rattle.nb_count.specs.Counts.{CountSeatOf, total_of}
use Rattle.nb_count.specs.Inside.{IsSeat, seat_of, seat_with, tally_of}
use Rattle.nb_count.specs.Tallies.{AreSums, StripesAreFree, StripesAreTheSum, added_by, all_of, served, sum_of_stripes, total, wrapped}
use Rattle.nb_count.specs.declared.counter.CountSeat.TheInside as seat
use Rattle.nb_count.specs.declared.tally.TheConstants.{SPREAD}
use Rattle.nb_count.specs.declared.tally.Size.{Size}
use Rattle.nb_count.specs.declared.tally.Tally.{Tally}
use Rattle.nb_count.proofs.Sums.{all_served, over_stripes, total-map, total-permutation, wrapped-lt, wrapped-sum}

-- ---- gathering

-- what a counter's seat knows is the seat
pub one-seat :
    (counter : TableId) (s : seat.Inside) (next : CountSeatOf) → IsSeat s → seat_of s ≡ next
    → next.counter ≡ counter → map (seat_with counter) s.seat.me.0 ≡ next ∷ []
one-seat counter s next is_seat view own =
    let table : counter ≡ s.seat.table_id = sym (ap (λ v. v.counter) view ∙ own) in
    ap (λ m. map (seat_with counter) m.0) is_seat.one
    ∙ ap (λ id. seat_with id (tally_of s.seat.me.0) ∷ []) table
    ∙ ap (λ v. v ∷ []) view

-- a token that has the tallies of these seats has as many, and they have added as much
pub gathered-all :
    (counter : TableId) (ts : List Tally) (seats : List CountSeatOf)
    → IsPermutation (map (seat_with counter) ts) seats
    → (length ts ≡ length seats) × (added_by ts ≡ total_of seats)
gathered-all counter ts seats are =
    let f : CountSeatOf → ℤ = λ seat. seat.added in
    let known = map (seat_with counter) ts in (
      sym (length-map ts (seat_with counter)) ∙ sym (length_permutation known seats are),
      sym (total-map f (seat_with counter) ts) ∙ total-permutation f known seats are,
    )

-- ---- the words

word-at : (xs : List ℕ) (i x : ℕ) → get_elem? xs i ≡ some x → get_or xs i 0 ≡ x
word-at [] i x at = absurd (some-ne-none x (sym at))
word-at (y ∷ xs) zero x at = some-injective y x at
word-at (y ∷ xs) (suc i) x at = word-at xs i x at

-- one stripe more, in a loop
pub sum-next :
    (words : List ℕ) (i so_far word : ℕ) → so_far ≡ sum_of_stripes words i % 2 ^ 64
    → get_elem? words (SPREAD * i) ≡ some word
    → (so_far + word) % 2 ^ 64 ≡ sum_of_stripes words (i + 1) % 2 ^ 64
sum-next words i so_far word is at =
    ap (λ x. (x + word) % 2 ^ 64) is ∙ mod-add-mod (sum_of_stripes words i) (2 ^ 64) word
    ∙ ap (λ x. (sum_of_stripes words i + x) % 2 ^ 64) (sym (word-at words (SPREAD * i) word at))
    ∙ ap (λ n. sum_of_stripes words n % 2 ^ 64) (sym (add-one i))

-- two sums modulo 2^64
sum-wrapped :
    (m n : ℕ) (a b : ℤ) → m % 2 ^ 64 ≡ wrapped a → n ≡ wrapped b
    → (m + n) % 2 ^ 64 ≡ wrapped (a +ℤ b)
sum-wrapped m n a b m_is n_is =
    add-mod m n (2 ^ 64)
    ∙ (λ i. (m_is i + (ap (λ x. x % 2 ^ 64) n_is ∙ mod-eq_of_lt (wrapped-lt b)) i) % 2 ^ 64)
    ∙ wrapped-sum a b

-- the first stripes' sum is what they serve
sum-served :
    (words : List ℕ) (stripes : ℕ) (ts : List Tally)
    → ((i : ℕ) → i < SPREAD * stripes → slice_index words i ≡ wrapped (total (served stripes i) ts))
    → (n : ℕ) → n ≤ stripes → sum_of_stripes words n % 2 ^ 64 ≡ wrapped (over_stripes stripes n ts)
sum-served words stripes ts stands zero below = refl
sum-served words stripes ts stands (suc n) below =
    sum-wrapped (sum_of_stripes words n) (slice_index words (SPREAD * n))
    (over_stripes stripes n ts) (total (served stripes (SPREAD * n)) ts)
    (sum-served words stripes ts stands n (omega arith)) (stands (SPREAD * n) (omega arith))

-- the stripes' sum is what all seats have added
pub stripes_are_the_sum : StripesAreTheSum
stripes_are_the_sum z s positive rule =
    sum-served s.words z.stripes (all_of s.views) rule.sums z.stripes (omega arith)
    ∙ ap wrapped (all_served z.stripes (all_of s.views) positive)

pub stripes_are_free : StripesAreFree
stripes_are_free y z s t y_positive z_positive y_rule z_rule same =
    stripes_are_the_sum y s y_positive y_rule ∙ ap wrapped same
    ∙ sym (stripes_are_the_sum z t z_positive z_rule)

-- where one token has all tallies, the stripes' sum is what they have added
whole-sum :
    (z : Size) (s : State (Unit {0}) (List Tally)) (id : ℕ) (ts : List Tally) → 1 ≤ z.stripes
    → AreSums z s → get_elem? s.views id ≡ some ts → length ts ≡ z.seats
    → sum_of_stripes s.words z.stripes % 2 ^ 64 ≡ wrapped (added_by ts)
whole-sum z s id ts positive rule at all =
    let whole = all-there (λ ts. ts) s.views id ts at (rule.seats ∙ sym all) in
    stripes_are_the_sum z s positive rule
    ∙ ap wrapped (total-permutation (λ t. t.added) (all_of s.views) ts whole)

pub final-sum :
    (z : Size) (words : List ℕ) (slots : List (Unit {0})) (id : ℕ) (ts : List Tally) → 1 ≤ z.stripes
    → Final (Seen (AreSums z) id ts) words slots → length ts ≡ z.seats
    → sum_of_stripes words z.stripes % 2 ^ 64 ≡ wrapped (added_by ts)
final-sum z words slots id ts positive final all =
    ap (λ ws. sum_of_stripes ws z.stripes % 2 ^ 64) (sym final.2)
    ∙ whole-sum z final.0 id ts positive final.1.0 final.1.1 all
