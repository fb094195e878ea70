-- Numbers come back from their keys.
use Rattle.std.proofs.Common.{◌≡◌, ℕ, ◌<◌, ◌≤◌, ◌^◌, ◌==◌, nat_le, refl, subst, sym, arith, rules}
use Rattle.std.proofs.lemmas.Bool.{eqb-false, eqb-true}
use Rattle.std.specs.Prelude.{Bool, true, false, nat_lt, if◌then◌else◌, IfOk, Ok, Err}
use Rattle.std.proofs.lemmas.Bool.Decides.{nat_tests}
use Rattle.nb_core.specs.Mixing.{mixed, unmixed}
use Rattle.nb_core.specs.declared.numbers.TheConstants.{KEY_MAX}
use Rattle.nb_lines.specs.Keys.{number_at}

-- a number up to a bound is taken, and for one past it the other
small : (bound n m other : ℕ) → n ≡ m → m ≤ bound → (if nat_lt bound n then other else n) ≡ m
small bound n m other same fits = grind (arith, nat_tests)

large : (bound n m other : ℕ) → n ≡ m → bound < m → (if nat_lt bound n then other else n) ≡ other
large bound n m other same past = grind (arith, nat_tests)

-- what was mixed once comes back by one step
pub once : (number key : ℕ) → unmixed key ≡ number → number ≤ KEY_MAX → number_at key ≡ number
once number key is fits = small KEY_MAX (unmixed key) number (unmixed (unmixed key)) is fits

-- and what was mixed again by two
pub twice : (number mixed key : ℕ) → unmixed key ≡ mixed → unmixed mixed ≡ number → KEY_MAX < mixed → number_at key ≡ number
twice number mixed key again first past =
    let back : unmixed (unmixed key) ≡ number = rw again first in
    rw (large KEY_MAX (unmixed key) mixed (unmixed (unmixed key)) again past) back

-- the two numbers past the greatest key are mixed to keys
greatest : nat_le (mixed 18446744073709551615) KEY_MAX ≡ true
greatest = refl

next : nat_le (mixed 18446744073709551614) KEY_MAX ≡ true
next = refl

pub again_fits :
    (m again : ℕ) → KEY_MAX < m → m < 2 ^ 64 → again ≡ mixed m → nat_le again KEY_MAX ≡ true
again_fits m again past fits is = rw is (one-of (m == 18446744073709551615) refl)
  where
    one-of :
        (b : Bool) → (m == 18446744073709551615) ≡ b → nat_le (mixed m) KEY_MAX ≡ true
    one-of true same =
        subst (λ n. nat_le (mixed n) KEY_MAX ≡ true) (sym (eqb-true m _ same)) greatest
    one-of false other =
        let differs = eqb-false m 18446744073709551615 other in
        let same : 18446744073709551614 ≡ m = omega (arith, past, fits, differs) in
        subst (λ n. nat_le (mixed n) KEY_MAX ≡ true) same next

-- what holds of a value holds where it is the answer
pub where_ok : {A E : Type 0} (test : Bool) (x : A) (e : E) (P : A → Type 0) → P x → IfOk (if test then Ok x else Err e) P
where_ok true x e P holds = search (rules, holds)
where_ok false x e P holds = search rules
