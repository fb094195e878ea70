-- How words stand for the states of values.
use Rattle.std.proofs.Common.{◌≡◌, ◌∙◌, ℕ, ◌+◌, ◌*◌, ◌/◌, ◌%◌, bit_or, Some, ap, sym, refl, arith}
use Rattle.std.proofs.lemmas.Bool.Decides.{nat_tests}
use Rattle.std.proofs.lemmas.Nat.{and_mask}
use Rattle.std.proofs.lemmas.Nat.Bits.{and_pow, bit_at-suc, bit_at_lowest}
use Rattle.std.specs.Int.Bits.{or_add_and}
use Rattle.nb_core.specs.States.{IsValueState, value_state, value_word, primed}
use Rattle.nb_core.specs.Tables.{IsUnprimed}
use Rattle.nb_core.specs.Laws.{Codings}
use Rattle.nb_core.specs.declared.states.ValueState.{ValueState}
use Rattle.nb_core.specs.declared.states.ValueState.TheVariants.{Null, Tombstone, Live, PrimedNull, PrimedTombstone, Primed, Finished}

-- a value's word stands for it, if its number is the map's
pub value_state-word : (v : ValueState) → IsValueState v → value_state (value_word v) ≡ Some v
value_state-word Null range = refl
value_state-word Tombstone range = refl
value_state-word (Live n) range = grind (arith, nat_tests)
value_state-word PrimedNull range = refl
value_state-word PrimedTombstone range = refl
value_state-word (Primed n) range = grind (arith, nat_tests)
value_state-word (Finished n) range = grind (arith, nat_tests)

-- a word that stands for a value is the value's, and its number is the map's
pub word-of :
    (x : ℕ) (v : ValueState) → value_state x ≡ Some v → (x ≡ value_word v) × IsValueState v
word-of x v says = grind (arith, nat_tests)

-- to set the lowest bit, or the one above it
or_one : (x : ℕ) → bit_or x 1 + x % 2 ≡ x + 1
or_one x = ap (λ y. bit_or x 1 + y) (sym (and_mask x 1)) ∙ or_add_and x 1

or_two : (x : ℕ) → bit_or x 2 + (x / 2 % 2) * 2 ≡ x + 2
or_two x =
    ap (λ y. bit_or x 2 + y * 2) (sym (bit_at_lowest (x / 2)) ∙ sym (bit_at-suc x 0))
    ∙ ap (λ y. bit_or x 2 + y) (sym (and_pow x 1)) ∙ or_add_and x 2

-- to set the lowest bit of a word primes its value
pub primed-word : (v : ValueState) → bit_or (value_word v) 1 ≡ value_word (primed v)
primed-word Null = refl
primed-word Tombstone = refl
primed-word (Live n) = omega (arith, or_one (4 * n + 8))
primed-word PrimedNull = refl
primed-word PrimedTombstone = refl
primed-word (Primed n) = omega (arith, or_one (4 * n + 9))
primed-word (Finished n) = omega (arith, or_one (4 * n + 11))

-- to set the bit above it in a primed number's word finishes the number
pub finished-word : (n : ℕ) → bit_or (value_word (Primed n)) 2 ≡ value_word (Finished n)
finished-word n = omega (arith, or_two (4 * n + 9))

-- the word of a value that isn't primed is even
even-word : (v : ValueState) → IsUnprimed v → value_word v % 2 ≡ 0
even-word Null unprimed = refl
even-word Tombstone unprimed = refl
even-word (Live n) unprimed = omega arith
even-word _ unprimed = absurd unprimed

-- and only such a word is
word-even : (v : ValueState) → value_word v % 2 ≡ 0 → IsUnprimed v
word-even Null even = tt
word-even Tombstone even = tt
word-even (Live n) even = tt
word-even _ even = absurd (omega (arith, even))

pub codings : Codings
codings = record {
  state_of_word = value_state-word;
  word_of_state = word-of;
  prime = primed-word;
  finish = finished-word;
  finish_again = λ n. omega (arith, or_two (4 * n + 11));
  even = λ v. (even-word v, word-even v);
}
