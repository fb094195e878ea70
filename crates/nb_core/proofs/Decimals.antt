-- The number that digits write, one digit after another.
use Rattle.std.proofs.Common.{◌≡◌, ◌∙◌, ℕ, ◌+◌, ◌-◌, ◌*◌, ◌^◌, ◌<◌, ◌≤◌, ◌&&◌, Bool, List, [], ◌∷◌, Option, None, Some, Err, sym, ap, refl, true, false, length, drop, get_or, arith, add-one, le-ltb}
use Rattle.std.specs.Str.{all_ascii_digits}
use Rattle.std.specs.Str.Parse.{digits_value, digits_value_after}
use Rattle.std.specs.Char.{is_ascii_digit, digit_value}
use Rattle.std.specs.Int.{IsInRange}
use Rattle.std.specs.List.{list_all}
use Rattle.std.specs.Option.{SomeIff, ok_or}
use Rattle.std.proofs.Math.Seq.{drop-cons}
use Rattle.std.proofs.lemmas.Bool.Decides.{nat_tests}
use Rattle.std.proofs.lemmas.Str.{digit_value_digit}
use Rattle.nb_core.specs.Digits.{are_digits, number_read}
use Rattle.nb_core.specs.declared.digits.DigitsFault.TheVariants.{TooLarge}

pub all_digits : (text : List ℕ) → list_all is_ascii_digit text ≡ all_ascii_digits text
all_digits [] = refl
all_digits (c ∷ cs) = ap (λ b. is_ascii_digit c && b) (all_digits cs)

-- behind the number of the digits so far, the digits that are left write the number of the text
pub record HasRead (text : List ℕ) (i number : ℕ) : Type 0 where
  pub all : are_digits text ≡ true
  pub fits : number < 2 ^ 64
  pub value : digits_value_after 10 number (drop i text) ≡ digits_value 10 text
  pub digits : all_ascii_digits (drop i text) ≡ true

both : (a b : Bool) → (a && b) ≡ true → (a ≡ true) × (b ≡ true)
both true b e = (refl, e)
both false b e = cc

head_is :
    (text : List ℕ) (i : ℕ) → i < length text → drop i text ≡ get_or text i 0 ∷ drop (i + 1) text
head_is text i h = rw add-one (drop-cons text i 0 h)

weight_of : (c : ℕ) → is_ascii_digit c ≡ true → digit_value c + 48 ≡ c
weight_of c e =
    let in_range : IsInRange 48 57 c = (grind (arith, nat_tests), grind (arith, nat_tests)) in
    digit_value_digit c in_range

-- more digits never make a number smaller
grows : (number : ℕ) (ds : List ℕ) → number ≤ digits_value_after 10 number ds
grows number [] = omega arith
grows number (c ∷ cs) = omega (arith, grows (number * 10 + digit_value c) cs)

module _ (text : List ℕ) (i number : ℕ) (h : HasRead text i number) (in_text : i < length text) where
  first_and_rest : (is_ascii_digit (get_or text i 0) && all_ascii_digits (drop (i + 1) text)) ≡ true
  first_and_rest = ap all_ascii_digits (sym (head_is text i in_text)) ∙ h.digits

  weight : digit_value (get_or text i 0) + 48 ≡ get_or text i 0
  weight = weight_of (get_or text i 0) (both _ _ first_and_rest).0

  value-next :
      (digit new : ℕ) → digit ≡ get_or text i 0 - 48 → new ≡ number * 10 + digit
      → digits_value_after 10 new (drop (i + 1) text) ≡ digits_value 10 text
  value-next digit new d n =
      let raised : new ≡ number * 10 + digit_value (get_or text i 0) = omega (arith, weight) in
      ap (λ n. digits_value_after 10 n (drop (i + 1) text)) raised
      ∙ ap (digits_value_after 10 number) (sym (head_is text i in_text)) ∙ h.value

  -- where the digits so far and one more make too large a number, all of them do
  pub too_large :
      (digit : ℕ) → digit ≡ get_or text i 0 - 48 → 2 ^ 64 ≤ number * 10 + digit
      → Err TooLarge ≡ number_read text
  too_large digit d large =
      let grown = grows (number * 10 + digit) (drop (i + 1) text) in
      let past : 2 ^ 64 ≤ digits_value 10 text =
      omega (arith, large, value-next digit (number * 10 + digit) d refl, grown) in
      rw (h.all, le-ltb (digits_value 10 text) (2 ^ 64) past) refl

-- a checked sum or product that is refused is past the bound
pub beyond :
    {E : Type 0} (e : E) (o : Option ℕ) (fault : E) (v bound : ℕ) → SomeIff o (v < bound) v
    → ok_or o e ≡ Err fault → bound ≤ v
beyond e None fault v bound none is = omega (arith, none)
beyond e (Some n) fault v bound some is = absurd cc
