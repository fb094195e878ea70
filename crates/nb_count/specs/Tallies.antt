-- What the stripes of a counter stand for.
use Rattle.std.specs.Prelude.{◌≡◌, ℕ, zero, suc, ◌+◌, ◌*◌, ◌%◌, ◌^◌, ◌<◌, ◌≤◌, ◌==◌, if◌then◌else◌, ℤ, pos, ◌+ℤ◌, List, [], ◌∷◌, map, flat_map, length, slice_index, slice_set}
use mathlib.Core.Option.{some}
use lib.ListN.{get_elem?}
use Rattle.std.specs.Int.{cast_signed, int_rem_euclid, w64}
use Rattle.std.specs.Int.RustNames.{unsigned_abs}
use Rattle.std.specs.List.{range_with_len}
use Rattle.atomic_table.specs.Table.{State, Me, Step}
use Rattle.nb_count.specs.declared.tally.TheConstants.{SPREAD}
use Rattle.nb_count.specs.declared.tally.Size.{Size}
use Rattle.nb_count.specs.declared.tally.Tally.{Tally}

-- z modulo 2^64
abbrev pub wrapped : ℤ → ℕ
wrapped z = unsigned_abs (int_rem_euclid z (pos (2 ^ 64)))

-- the sum of a number over a list
abbrev pub total : {X : Type 0} → (X → ℤ) → List X → ℤ
total f [] = pos 0
total f (x ∷ xs) = f x +ℤ total f xs

-- the index of the stripe of a seat with this number, of so many stripes
abbrev pub stripe_of : ℕ → ℕ → ℕ
stripe_of stripes number = SPREAD * (number % stripes)

-- what a seat has added, if this is its stripe's index, of so many stripes
abbrev pub served : ℕ → ℕ → Tally → ℤ
served stripes index t = if stripe_of stripes t.number == index then t.added else pos 0

-- the tally of a seat that has made no step
abbrev pub new_tally : ℕ → Tally
new_tally number = record { number = number; added = pos 0; adds = 0; steps = 0 }

-- those of so many such seats, numbered by their places
abbrev pub new_tallies : ℕ → List Tally
new_tallies count = map new_tally (range_with_len 0 count)

-- the tallies of all tokens
abbrev pub all_of : List (List Tally) → List Tally
all_of = flat_map (λ tallies. tallies)

-- Each word is the sum, modulo 2^64, of what the seats whose stripe it is have added: so a word
-- between two stripes is 0. And no seat's tally is lost.
pub record AreSums (z : Size) (s : State (Unit {0}) (List Tally)) : Type 0 where
  pub words : length s.words ≡ SPREAD * z.stripes
  pub sums : (i : ℕ) → i < SPREAD * z.stripes
      → slice_index s.words i ≡ wrapped (total (served z.stripes i) (all_of s.views))
  pub seats : length (all_of s.views) ≡ z.seats

-- the sum of the first n stripes
abbrev pub sum_of_stripes : List ℕ → ℕ → ℕ
sum_of_stripes words zero = 0
sum_of_stripes words (suc n) = sum_of_stripes words n + slice_index words (SPREAD * n)

-- what seats have added in all
abbrev pub added_by : List Tally → ℤ
added_by ts = total (λ t. t.added) ts

-- the sum of the stripes is, modulo 2^64, what all seats have added
abbrev pub StripesAreTheSum : Type 0
StripesAreTheSum =
    (z : Size) (s : State (Unit {0}) (List Tally)) → 1 ≤ z.stripes → AreSums z s
    → sum_of_stripes s.words z.stripes % 2 ^ 64 ≡ wrapped (added_by (all_of s.views))

-- where all seats have added the same, the sum of the stripes is the same modulo 2^64, however many
-- stripes there are
abbrev pub StripesAreFree : Type 0
StripesAreFree =
    (y z : Size) (s t : State (Unit {0}) (List Tally)) → 1 ≤ y.stripes → 1 ≤ z.stripes → AreSums y s
    → AreSums z t
    → added_by (all_of s.views) ≡ added_by (all_of t.views)
    → sum_of_stripes s.words y.stripes % 2 ^ 64 ≡ sum_of_stripes t.words z.stripes % 2 ^ 64

-- a seat's tally after an adding step
abbrev pub after_add : ℤ → Tally → Tally
after_add amount t = record t { added = t.added +ℤ amount; adds = t.adds + 1; steps = t.steps + 1 }

-- a seat's tally after a look at a word
abbrev pub after_look : Tally → Tally
after_look t = record t { steps = t.steps + 1 }

-- one step added the number that the word's operand stands for
abbrev pub HasAdded :
    Step (Unit {0}) → Me (Unit {0}) (List Tally) → ℕ → Me (Unit {0}) (List Tally) → Type 0
HasAdded step me found me' = me' ≡ (map (after_add (cast_signed w64 step.first)) me.0, me.1)

-- one step looked at a word
abbrev pub HasLooked :
    Step (Unit {0}) → Me (Unit {0}) (List Tally) → ℕ → Me (Unit {0}) (List Tally) → Type 0
HasLooked step me found me' = me' ≡ (map after_look me.0, me.1)

-- one load by a token that has all tallies: the word is what the seats that it serves have added,
-- and nothing else has changed
abbrev pub HasSummed :
    ℕ → Step (Unit {0}) → Me (Unit {0}) (List Tally) → ℕ → Me (Unit {0}) (List Tally) → Type 0
HasSummed stripes step me found me' =
    (me' ≡ me) × (found ≡ wrapped (total (served stripes step.word) me.0))

-- A step leaves each word as it is where its seat takes it for a look, whatever step it is.
abbrev pub LooksChangeNoWord : Type 0
LooksChangeNoWord =
    (z : Size) (s t : State (Unit {0}) (List Tally)) (seat : ℕ) (known : List Tally) → AreSums z s
    → AreSums z t
    → get_elem? s.views seat ≡ some known → t.views ≡ slice_set s.views seat (map after_look known)
    → t.words ≡ s.words
