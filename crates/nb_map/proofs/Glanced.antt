-- What a load of a value shows of a key, where it is told the read, and where it isn't.
use Rattle.std.proofs.Common.{◌≡◌, ◌∙◌, IsTrue, not, ℕ, Bool, true, false, cond, [], Option, Some, None, ap, sym, refl, subst}
use Rattle.nb_core.specs.Plans.{Plan}
use Rattle.nb_core.specs.States.{shown_by_value}
use Rattle.nb_core.specs.Tables.{Tables}
use Rattle.nb_core.specs.declared.calls.Call.{Call}
use Rattle.nb_core.specs.declared.calls.Call.TheVariants as call
use Rattle.nb_core.specs.declared.states.ValueState.{ValueState}
use Rattle.nb_table.specs.Chains.{ChainOf, Extended, IsOwn, SeenBy}
use Rattle.nb_table.specs.Events.{read, reads}
use Rattle.nb_map.specs.Logs.{as_replied}
use Rattle.nb_map.specs.Calling.{HasMade}
use Rattle.nb_map.specs.inside.Reading.{IsGlance, glanced_by}
use Rattle.nb_map.specs.declared.steps.get.Glance.{Glance}
use Rattle.nb_map.specs.declared.steps.get.Glance.TheVariants as glance
use Rattle.nb_map.proofs.Made.{made-more, made-quiet, made-read}
use Rattle.nb_map.proofs.Searched.{made-then}

-- the value was loaded by a step that was told a read, or none
abbrev Loaded : Plan → (before after : SeenBy) → ValueState → Option Call → Type 0
Loaded p before after v told =
    Extended p before after (reads before.number told (λ k. shown_by_value v)) 1

module _ (p : Plan) (key : ℕ) {before after : SeenBy} (v : ValueState) (told : Option Call) where
  -- a load that isn't told the read makes none
  pub made-untold : told ≡ None → Loaded p before after v told
      → HasMade p (call.Get key) before after [] 1
  made-untold is step = made-quiet p (call.Get key) (subst (Loaded p before after v) is step)

  -- one that is told it shows this of the key
  shown-read :
      (shown : Option (Option ℕ)) → told ≡ Some (call.Get key) → shown_by_value v ≡ shown
      → Loaded p before after v told
      → Extended p before after (read before.number (call.Get key) shown) 1
  shown-read shown is shows step =
      subst (λ shown. Extended p before after (read before.number (call.Get key) shown) 1) shows
      (subst (Loaded p before after v) is step)

  -- where it shows nothing, it is no read either
  pub made-primed : told ≡ Some (call.Get key) → shown_by_value v ≡ None
      → Loaded p before after v told → HasMade p (call.Get key) before after [] 1
  made-primed is shows step = made-read p (call.Get key) None (shown-read None is shows step)

  -- a glance at a slot that is the key's own, or empty
  pub made-glance :
      (own : Bool) (shown number : Option ℕ) → told ≡ cond own (Some (call.Get key)) None
      → number ≡ cond own shown None → shown_by_value v ≡ Some shown
      → Loaded p before after v told
      → HasMade p (call.Get key) before after (cond own (as_replied (call.Get key) number) []) 1
  made-glance true shown number is number_is shows step =
      made-read p (call.Get key) (Some number)
      (shown-read (Some number) is (shows ∙ ap Some (sym number_is)) step)
  made-glance false shown number is number_is shows step = made-untold is step

-- a look at the key and one at the value, which is told the read only where the key is there
pub made-looked :
    (chain : ChainOf) (key : ℕ) {before then after : SeenBy} (own : Bool) (shown : Glance)
    → IsOwn chain before
    → (own ≡ true → HasMade chain.shape (call.Get key) before then [] 1)
    → (own ≡ false → HasMade chain.shape (call.Get key) before then (as_replied (call.Get key) None)
    1)
    → (own ≡ false → shown ≡ glance.Shows None)
    → HasMade chain.shape (call.Get key) then after (cond own (glanced_by (call.Get key) shown) [])
    1
    → HasMade chain.shape (call.Get key) before after (glanced_by (call.Get key) shown) 2
made-looked chain key true shown mine first empty none second = made-then mine (first refl) second
made-looked chain key {before} {after = after} false shown mine first empty none second =
    subst (λ g. HasMade chain.shape (call.Get key) before after (glanced_by (call.Get key) g) 2)
    (sym (none refl))
    (made-more chain mine (empty refl) second)

-- a test that is turned
pub turned : (a b : Bool) → not a ≡ b → a ≡ not b
turned true b is = ap not is
turned false b is = ap not is

-- what a glance shows is right, where the slot is the key's, or shows that there is no number
pub glance-either :
    (p : Plan) (t : Tables) (g k at : ℕ) (own : Bool) (shown : Glance)
    → (IsTrue own → IsGlance p t g k at shown) → (own ≡ false → shown ≡ glance.Shows None)
    → IsGlance p t g k at shown
glance-either p t g k at true shown mine empty = mine refl
glance-either p t g k at false shown mine empty = subst (IsGlance p t g k at) (sym (empty refl)) tt
