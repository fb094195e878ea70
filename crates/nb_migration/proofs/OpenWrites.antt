-- The writes of a core act only where there is no number or one of the user's, and leave none or one
-- of the user's.
use Rattle.std.proofs.Common.{◌≡◌, ℕ, ◌+◌, ◌-◌, ◌≤◌, true, Option, Some, None, sym, subst, refl, arith}
use Rattle.std.proofs.lemmas.Bool.{eqb-true, le-leb, ltb-true}
use Rattle.std.specs.Prelude.{nat_le, nat_lt}
use Rattle.nb_map.specs.NamedCalls.{add_below_of, change_to, exchange_of, put_below_of, put_if_absent_of, remove_below_of}
use Rattle.nb_core.specs.Log.{changed}
use Rattle.nb_migration.specs.Numbers.{is_open}
use Rattle.nb_migration.specs.Writes.{IsOpenWrite}
use Rattle.nb_migration.specs.declared.numbers.TheConstants.{USER_END, USER_MAX}

-- what is below the end is the user's
below-end : (n : ℕ) → nat_lt n USER_END ≡ true → nat_le n USER_MAX ≡ true
below-end n less = le-leb n USER_MAX (omega (arith, ltb-true n USER_END less))

pub put-open : (key n : ℕ) → n ≤ USER_MAX → IsOpenWrite (put_below_of key n USER_END)
put-open key n user None holds = (refl, le-leb n USER_MAX user)
put-open key n user (Some m) holds = (below-end m holds, le-leb n USER_MAX user)

pub remove-open : (key : ℕ) → IsOpenWrite (remove_below_of key USER_END)
remove-open key None holds = (refl, refl)
remove-open key (Some m) holds = (below-end m holds, refl)

pub add-open : (key n : ℕ) → n ≤ USER_MAX → IsOpenWrite (add_below_of key n (USER_END - n))
add-open key n user None holds = (refl, le-leb (0 + n) USER_MAX (omega (arith, user)))
add-open key n user (Some m) holds =
    let less = ltb-true m (USER_END - n) holds in (
      le-leb m USER_MAX (omega (arith, less)),
      le-leb (m + n) USER_MAX (omega (arith, less)),
    )

-- what an exchange leaves
left-open :
    (new found : Option ℕ) → is_open new ≡ true → is_open (changed (change_to new) found) ≡ true
left-open None found is = refl
left-open (Some n) found is = is

pub exchange-open :
    (key : ℕ) (old new : Option ℕ) → is_open old ≡ true → is_open new ≡ true
    → IsOpenWrite (exchange_of key old new)
exchange-open key None new was is None holds = (refl, left-open new None is)
exchange-open key None new was is (Some n) holds = absurd cc
exchange-open key (Some m) new was is None holds = absurd cc
exchange-open key (Some m) new was is (Some n) holds = (
  subst (λ n. nat_le n USER_MAX ≡ true) (sym (eqb-true n m holds)) was,
  left-open new (Some n) is,
)

pub put_if_absent-open : (key n : ℕ) → n ≤ USER_MAX → IsOpenWrite (put_if_absent_of key n)
put_if_absent-open key n user = exchange-open key None (Some n) refl (le-leb n USER_MAX user)
