-- Each move keeps the rule of the stripes.
use Rattle.std.proofs.Common.{◌≡◌, ◌≢◌, ◌∙◌, ℕ, zero, suc, ◌+◌, ◌*◌, ◌%◌, ◌^◌, ◌<◌, ap, sym, subst, refl, inl, inr, Bool, true, false, cond, eqb, List, [], ◌∷◌, ◌++◌, map, length, ℤ, ◌+ℤ◌, pos, slice_index, slice_set, take, drop, arith}
use mathlib.Core.Option.{some, none}
use lib.ListN.{get_elem?}
use Rattle.std.proofs.lemmas.Bool.{eq-eqb, ne_eqb}
use Rattle.std.proofs.lemmas.Bool.Decides.{eqb_tells}
use Rattle.std.proofs.lemmas.Int.{ints}
use Rattle.std.proofs.lemmas.List.{append-nil, ext_get_or, get_or-set_other, get_or-set_same, length-set, set-get_or, take-append-drop}
use Rattle.std.proofs.lemmas.List.FromFn.{length-map-range_with_len}
use Rattle.std.proofs.lemmas.List.Sorted.{length_permutation}
use Rattle.std.specs.Int.{cast_signed, w64}
use Rattle.std.specs.List.{range_with_len}
use Rattle.std.specs.List.Sorted.{IsPermutation}
use Rattle.atomic_table.specs.Table.{Allows, Joins, Me, Splits, State, keeps, opening, step, stepped}
use Rattle.nb_core.proofs.Seating.{all-joined, all-split}
use Rattle.nb_count.specs.Tallies.{AreSums, HasAdded, HasLooked, LooksChangeNoWord, after_add, after_look, all_of, new_tallies, new_tally, served, stripe_of, total, wrapped}
use Rattle.nb_count.specs.declared.tally.TheConstants.{SPREAD}
use Rattle.nb_count.specs.declared.tally.Size.{Size}
use Rattle.nb_count.specs.declared.tally.Tally.{Tally}
use Rattle.nb_count.proofs.Sums.{length-all_set, total-permutation, total-set, wrapped-add}

-- what a word has gained by an add
gained :
    (stripes i : ℕ) (t : Tally) (amount : ℤ) → total (served stripes i) (after_add amount t ∷ [])
    ≡ total (served stripes i) (t ∷ []) +ℤ cond (eqb (stripe_of stripes t.number) i) amount
    (pos 0)
gained stripes i t amount =
    elim (eqb (stripe_of stripes t.number) i) as
    (λ b. cond b (t.added +ℤ amount) (pos 0) +ℤ pos 0
    ≡ (cond b t.added (pos 0) +ℤ pos 0) +ℤ cond b amount (pos 0)) [
      | true ↦ omega (arith, ints)
      | false ↦ omega (arith, ints)
    ]

module _ (z : Size) (s : State (Unit {0}) (List Tally)) (rule : AreSums z s) (id : ℕ) where
  -- the sum that a word stands for, after the seat's tally has changed
  sum-after : (i : ℕ) (t u : Tally) → get_elem? s.views id ≡ some (t ∷ [])
      → total (served z.stripes i) (all_of (slice_set s.views id (u ∷ []))) +ℤ total
      (served z.stripes i) (t ∷ []) ≡ total (served z.stripes i) (all_of s.views) +ℤ total
      (served z.stripes i) (u ∷ [])
  sum-after i t u at = total-set (served z.stripes i) s.views id (t ∷ []) (u ∷ []) at

  seats-after : (t u : Tally) → get_elem? s.views id ≡ some (t ∷ [])
      → length (all_of (slice_set s.views id (u ∷ []))) ≡ z.seats
  seats-after t u at = omega (arith, length-all_set s.views id (t ∷ []) (u ∷ []) at, rule.seats)

  -- the sum of the seat's stripe grows by what is added
  sum-here : (t : Tally) (amount : ℤ) → get_elem? s.views id ≡ some (t ∷ []) → (i : ℕ)
      → i ≡ stripe_of z.stripes t.number → total (served z.stripes i)
      (all_of (slice_set s.views id (after_add amount t ∷ [])))
      ≡ total (served z.stripes i) (all_of s.views) +ℤ amount
  sum-here t amount at i is =
      let gain : cond (eqb (stripe_of z.stripes t.number) i) amount (pos 0) ≡ amount =
      ap (λ b. cond b amount (pos 0)) (eq-eqb _ _ (sym is)) in
      omega (arith, ints, sum-after i t (after_add amount t) at, gained z.stripes i t amount)

  -- and no other word's
  sum-elsewhere : (t : Tally) (amount : ℤ) → get_elem? s.views id ≡ some (t ∷ []) → (i : ℕ)
      → i ≢ stripe_of z.stripes t.number → total (served z.stripes i)
      (all_of (slice_set s.views id (after_add amount t ∷ [])))
      ≡ total (served z.stripes i) (all_of s.views)
  sum-elsewhere t amount at i other =
      let gain : cond (eqb (stripe_of z.stripes t.number) i) amount (pos 0) ≡ pos 0 =
      ap (λ b. cond b amount (pos 0)) (ne_eqb _ _ (λ same. other (sym same))) in
      omega (arith, ints, sum-after i t (after_add amount t) at, gained z.stripes i t amount)

  words-after_add : (t : Tally) (k : ℕ) → k < 2 ^ 64 → get_elem? s.views id ≡ some (t ∷ [])
      → (index : ℕ) → index ≡ stripe_of z.stripes t.number → (i : ℕ) → i < SPREAD * z.stripes
      → slice_index (slice_set s.words index ((slice_index s.words index + k) % 2 ^ 64)) i
      ≡ wrapped (total (served z.stripes i)
      (all_of (slice_set s.views id (after_add (cast_signed w64 k) t ∷ []))))
  words-after_add t k fits at index is i below =
      elim (eqb_tells i index) [
        | inl same ↦
            let within : index < length s.words = omega (arith, rule.words, same.1) in
            ap (slice_index (slice_set s.words index ((slice_index s.words index + k) % 2 ^ 64)))
            same.1
            ∙ get_or-set_same s.words index _ 0 within
            ∙ ap (λ n. (n + k) % 2 ^ 64) (ap (slice_index s.words) (sym same.1) ∙ rule.sums i below)
            ∙ wrapped-add (total (served z.stripes i) (all_of s.views)) k fits
            ∙ ap wrapped (sym (sum-here t (cast_signed w64 k) at i (same.1 ∙ is)))
        | inr other ↦
            get_or-set_other s.words index i _ 0 other.1 ∙ rule.sums i below
            ∙ ap wrapped
            (sym (sum-elsewhere t (cast_signed w64 k) at i (λ same. other.1 (same ∙ sym is))))
      ]

  add-keeps : (t : Tally) (k : ℕ) → k < 2 ^ 64 → get_elem? s.views id ≡ some (t ∷ []) → (index : ℕ)
      → index ≡ stripe_of z.stripes t.number
      → AreSums z (stepped s index ((slice_index s.words index + k) % 2 ^ 64) id []
      (after_add (cast_signed w64 k) t ∷ []) keeps)
  add-keeps t k fits at index is = record {
    words = length-set s.words index _ ∙ rule.words;
    sums = words-after_add t k fits at index is;
    seats = seats-after t (after_add (cast_signed w64 k) t) at;
  }

  -- a look leaves each word, and what each seat has added
  look-keeps : (t : Tally) → get_elem? s.views id ≡ some (t ∷ []) → (index : ℕ)
      → AreSums z (stepped s index (slice_index s.words index) id [] (after_look t ∷ []) keeps)
  look-keeps t at index = record {
    words = length-set s.words index _ ∙ rule.words;
    sums = λ i below. ap (λ w. slice_index w i) (set-get_or s.words index 0) ∙ rule.sums i below
        ∙ ap wrapped (omega (arith, ints, sum-after i t (after_look t) at));
    seats = seats-after t (after_look t) at;
  }

-- ---- what each move asks

pub allows-add :
    (z : Size) (slots id : ℕ) (me : Me (Unit {0}) (List Tally)) (t : Tally) (k index : ℕ)
    → me ≡ (t ∷ [], []) → k < 2 ^ 64 → index ≡ stripe_of z.stripes t.number
    → Allows (AreSums z) slots id me index (λ n. (n + k) % 2 ^ 64)
    (HasAdded (step slots index k 0 none) me)
allows-add z slots id me t k index one fits is =
    subst (λ m. Allows (AreSums z) slots id m index (λ n. (n + k) % 2 ^ 64)
    (HasAdded (step slots index k 0 none) m)) (sym one)
    (λ s rule homes at word. (
      after_add (cast_signed w64 k) t ∷ [],
      keeps,
      tt,
      add-keeps z s rule id t k fits at index is,
      refl,
    ))

pub allows-look :
    (z : Size) (slots id : ℕ) (me : Me (Unit {0}) (List Tally)) (t : Tally) (index : ℕ)
    → me ≡ (t ∷ [], []) → Allows (AreSums z) slots id me index (λ n. n)
    (HasLooked (step slots index 0 0 none) me)
allows-look z slots id me t index one =
    subst (λ m. Allows (AreSums z) slots id m index (λ n. n)
    (HasLooked (step slots index 0 0 none) m)) (sym one)
    (λ s rule homes at word. (
      after_look t ∷ [],
      keeps,
      tt,
      look-keeps z s rule id t at index,
      refl,
    ))

-- The rule doesn't see which token has a tally, but all tokens' tallies together.
kept :
    (z : Size) (s : State (Unit {0}) (List Tally)) (views : List (List Tally)) → AreSums z s
    → IsPermutation (all_of s.views) (all_of views)
    → AreSums z record { words = s.words; homes = s.homes; views = views }
kept z s views rule are = record {
  words = rule.words;
  sums = λ i below. rule.sums i below
      ∙ ap wrapped (total-permutation (served z.stripes i) (all_of s.views) (all_of views) are);
  seats = length_permutation (all_of s.views) (all_of views) are ∙ rule.seats;
}

-- a token gives its first tally away
pub splits : (z : Size) (id : ℕ) (v : List Tally) → Splits (AreSums z) id v (drop 1 v) (take 1 v)
splits z id v s rule at =
    kept z s _ rule
    (all-split (λ ts. ts) s.views id v (drop 1 v) (take 1 v) at (sym (take-append-drop 1 v)))

-- a token takes in those of another
pub joins :
    (z : Size) (id : ℕ) (v : List Tally) (other : ℕ) (w : List Tally)
    → Joins (AreSums z) id v other w (v ++ w) []
joins z id v other w s rule at differs other_at =
    kept z s _ rule
    (all-joined (λ ts. ts) s.views id v other w (v ++ w) [] at differs other_at refl refl)

-- ---- the start

same-choice : (b : Bool) (x : ℤ) → cond b x x ≡ x
same-choice true x = refl
same-choice false x = refl

total-new : (stripes i first count : ℕ)
    → total (served stripes i) (map new_tally (range_with_len first count)) ≡ pos 0
total-new stripes i first zero = refl
total-new stripes i first (suc count) =
    let none = same-choice (eqb (stripe_of stripes first) i) (pos 0) in
    omega (arith, ints, none, total-new stripes i (first + 1) count)

-- all words 0, and nothing added
pub opens :
    (z : Size) (words : List ℕ) → length words ≡ SPREAD * z.stripes
    → ((i : ℕ) → slice_index words i ≡ 0)
    → AreSums z (opening words [] (new_tallies z.seats))
opens z words count zeros =
    let all : all_of (new_tallies z.seats ∷ []) ≡ new_tallies z.seats
    = append-nil (new_tallies z.seats) in
    record {
      words = count;
      sums = λ i below.
          let none = ap (total (served z.stripes i)) all ∙ total-new z.stripes i 0 z.seats in
          zeros i ∙ ap wrapped (sym none);
      seats = ap length all ∙ length-map-range_with_len new_tally 0 z.seats;
    }

-- ---- looks

-- what seats have added is the same after looks
total-looked :
    (stripes i : ℕ) (ts : List Tally) → total (served stripes i) (map after_look ts)
    ≡ total (served stripes i) ts
total-looked stripes i [] = refl
total-looked stripes i (t ∷ ts) = ap (λ z. served stripes i t +ℤ z) (total-looked stripes i ts)

-- and so are the words, which stand for it
pub looks_change_no_word : LooksChangeNoWord
looks_change_no_word z s t seat known before after at looked =
    ext_get_or 0 t.words s.words (after.words ∙ sym before.words)
    (λ i below. after.sums i (omega (arith, after.words)) ∙ ap wrapped (same i)
    ∙ sym (before.sums i (omega (arith, after.words))))
  where
    same : (i : ℕ) → total (served z.stripes i) (all_of t.views)
        ≡ total (served z.stripes i) (all_of s.views)
    same i = omega (
      arith,
      ints,
      ap (λ views. total (served z.stripes i) (all_of views)) looked,
      total-set (served z.stripes i) s.views seat known (map after_look known) at,
      total-looked z.stripes i known,
    )
