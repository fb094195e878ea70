use Rattle.std.proofs.Common.{◌≡◌, ◌∙◌, ℕ, ◌≤◌, Bool, true, false, not, cond, ◌||◌, Option, Some, None, Result, Ok, Err, IfSome, ap, sym, subst, refl, arith}
use Rattle.std.proofs.lemmas.Bool.{ltb-true, ne_eqb}
use Rattle.std.specs.FinMap as map
use Rattle.nb_core.specs.Calls.{is_past_max, leaves_alone, overflows, same_number}
use Rattle.nb_core.specs.Log.{Numbers, changed, holds_of}
use Rattle.nb_core.specs.History.{key_of_call}
use Rattle.nb_core.specs.declared.calls.Call.TheVariants.{Write}
use Rattle.nb_core.specs.declared.calls.Change.{Change}
use Rattle.nb_core.specs.declared.calls.Want.{Want}
use Rattle.nb_core.specs.declared.numbers.TheConstants.{VALUE_MAX}
use Rattle.nb_map.proofs.steps.slot.decide.Goals as goal

-- a test that leads to an error holds
failed : {A E : Type 0} (b : Bool) (x z : E) (y : A)
    → ◌≡◌ {A = Result A E} (cond b (Err x) (Ok y)) (Err z) → b ≡ true
failed true x z y is = refl
failed false x z y is = absurd cc

-- a number past the greatest one isn't what stands at a key
past-differs :
    (after before : Option ℕ) → IfSome before (λ n. n ≤ VALUE_MAX) → is_past_max after ≡ true
    → same_number after before ≡ false
past-differs None before fits past = absurd cc
past-differs (Some m) None fits past = refl
past-differs (Some m) (Some n) fits past =
    let above = ltb-true VALUE_MAX m past in
    ne_eqb m n (λ same. omega (arith, same, fits, above))

-- a call that would put one there is refused
refused :
    (key : ℕ) (want : Want) (change : Change) (number : Option ℕ)
    → IfSome number (λ n. n ≤ VALUE_MAX) → holds_of want number ≡ true
    → is_past_max (changed change number) ≡ true
    → (leaves_alone (Write key want change) number ≡ false)
    × ((m : Numbers) → map.get m key ≡ number → overflows (Write key want change) m ≡ true)
refused key want change number fits holds past = (
  ap (λ b. not b || same_number (changed change number) number) holds
      ∙ past-differs (changed change number) number fits past,
  λ m at. ap (λ n. cond (holds_of want n) (is_past_max (changed change n)) false) at
      ∙ ap (λ b. cond b (is_past_max (changed change number)) false) holds ∙ past,
)

pub returns-in-Err : goal.returns-in-Err
returns-in-Err c =
    let number = c.args.number.now in
    let want = c.in-Write.want in
    let change = c.in-Write.change in
    let holds : holds_of want number ≡ true = sym c.holds-matched.ensures
    ∙ c.if-not-matched.false in
    let past = failed (is_past_max (changed change number)) _ _ _ (sym c.changed.ensures
    ∙ c.in-Err.is) in
    subst (λ call. (leaves_alone call number ≡ false)
    × ((m : Numbers) → map.get m (key_of_call call) ≡ number → overflows call m ≡ true))
    (sym c.in-Write.is) (refused c.in-Write.key want change number c.known.ensures holds past)
