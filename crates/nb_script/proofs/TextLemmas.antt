-- What texts say, and how `parse` reads them.
use Rattle.std.proofs.Common.{◌≡◌, ◌≢◌, ◌∙◌, ◌<◌, ◌≤◌, ◌^◌, ◌&&◌, ℕ, Bool, true, false, sym, ap, refl, List, length, Option, Some, None, Result, Ok, Err, IfSome, IfNone, nat_lt, lt-ltb, ltb-true, slice_index, inl, inr}
use Rattle.std.proofs.lemmas.Bool.{cases_lt}
use Rattle.std.specs.Result.{result_ok}
use Rattle.std.specs.Str.{all_ascii_digits}
use Rattle.std.specs.Str.Parse.{ParsesUnsigned, digits_value, without_leading_plus}
use Rattle.std.proofs.lemmas.Str.Parse.{IsNumeralModel, numerals_by_value, parse_plain, tells_all_ascii_digits}
use Rattle.clap.proofs.WalkLemmas.{both}
use Rattle.nb_script.specs.Options.{u32_of}
use Rattle.nb_core.specs.Digits.{number_spelled}

-- the digits that `parse` reads
digits : IsNumeralModel (λ ds. all_ascii_digits ds ≡ true) (digits_value 10)
digits = numerals_by_value _ tells_all_ascii_digits

number_of-digits :
    (ds : List ℕ) → 0 < length ds → all_ascii_digits ds ≡ true
    → number_spelled ds ≡ Some (digits_value 10 ds)
number_of-digits ds some all = rw (lt-ltb 0 (length ds) some, all) refl

number_of_some :
    (ds : List ℕ) (n : ℕ) → number_spelled ds ≡ Some n → (all_ascii_digits ds ≡ true)
    × (0 < length ds) × (digits_value 10 ds ≡ n)
number_of_some ds n is = go (nat_lt 0 (length ds) && all_ascii_digits ds) refl
  where
    go : (b : Bool) → (nat_lt 0 (length ds) && all_ascii_digits ds) ≡ b
        → (all_ascii_digits ds ≡ true) × (0 < length ds) × (digits_value 10 ds ≡ n)
    go true t =
        let parts = both _ _ t in
        let same : Some (digits_value 10 ds) ≡ Some n = rw t at is in
        (parts.1, ltb-true _ _ parts.0, cc)
    go false t =
        let bad : None ≡ Some n = rw t at is in
        cc

-- what is read of a text that begins with no plus
module _ {E : Type 0} (bs : List ℕ) (plain : slice_index bs 0 ≢ 43) where
  pub number_read : (r : Result ℕ E) → ParsesUnsigned 32 10 bs r
      → IfSome (result_ok r) (λ n. number_spelled bs ≡ Some n)
  number_read (Ok n) h =
      let read = parse_plain digits {E = E} 32 bs (Ok n) h plain in
      number_of-digits bs read.0.1 read.0.0 ∙ ap Some (sym read.1)
  number_read (Err e) h = tt

  pub number_refused : (r : Result ℕ E) → ParsesUnsigned 32 10 bs r
      → IfNone (result_ok r) ((n : ℕ) → number_spelled bs ≡ Some n → 2 ^ 32 ≤ n)
  number_refused (Ok n) h = tt
  number_refused (Err e) h = λ n is.
      let read = parse_plain digits 32 bs (Err e) h plain in
      let parts = number_of_some bs n is in
      elim (cases_lt n (2 ^ 32)) [
        | inl small ↦ absurd (read (parts.0, parts.1, rw parts.2 small))
        | inr large ↦ large
      ]

-- a number that `parse` gives of a text, where a plus may stand first
pub u32_read :
    (E : Type 0) (t : List ℕ) (n : ℕ) → ParsesUnsigned {E = E} 32 10 t (Ok n) → u32_of t ≡ Some n
u32_read E t n h =
    let ds = without_leading_plus t in
    rw (
      number_of-digits ds h.0.0.0 (digits.from ds h.0.0.1),
      lt-ltb (digits_value 10 ds) (2 ^ 32) h.0.1,
    ) (ap Some (sym h.1))

pub u32_refused :
    {E : Type 0} (t : List ℕ) (e : E) → ParsesUnsigned 32 10 t (Err e) → u32_of t ≡ None
u32_refused {E} t e h = go (number_spelled (without_leading_plus t)) refl
  where
    test : (n : ℕ) (b : Bool) → number_spelled (without_leading_plus t) ≡ Some n
        → nat_lt n (2 ^ 32) ≡ b → u32_of t ≡ None
    test n true is small =
        let parts = number_of_some (without_leading_plus t) n is in
        absurd (h (
          (parts.1, digits.to (without_leading_plus t) parts.0),
          rw parts.2 (ltb-true _ _ small),
        ))
    test n false is large = rw (is, large) refl

    go : (o : Option ℕ) → number_spelled (without_leading_plus t) ≡ o → u32_of t ≡ None
    go None is = rw is refl
    go (Some n) is = test n (nat_lt n (2 ^ 32)) is refl
