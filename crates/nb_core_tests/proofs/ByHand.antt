-- What is so of the steps that the tests make by hand.
use Rattle.std.proofs.Common.{◌≡◌, ◌≢◌, ◌<◌, ◌⊎◌, ℕ, ◌+◌, List, []}
use Rattle.std.proofs.Common.{inl, inr, sym, subst, refl, arith}
use Rattle.nb_core.specs.Plans.{Plan, size_of}
use Rattle.nb_core.specs.History.{HasWay}
use Rattle.nb_core.specs.Tables.{AreOthers, IsOther, Tables, path_slot}
use Rattle.nb_core.specs.declared.events.Event.{Event}
use Rattle.nb_core.specs.declared.states.KeyState.TheVariants.{Claimed}
use Rattle.nb_core.specs.declared.states.ValueState.{ValueState}
use Rattle.nb_core.specs.declared.states.ValueState.TheVariants.{Null, Tombstone, Live}
use Rattle.nb_core.specs.declared.states.ValueState.TheVariants.{PrimedNull, PrimedTombstone, Primed, Finished}
use Rattle.nb_table.specs.Chains.{Extended, SeenBy}

-- one more slot of a path that is another key's
pub one-more :
    (p : Plan) (t : Tables) (k d : ℕ) → AreOthers p t 0 k d
    → IsOther (t.key 0 (path_slot p 0 k d)) k → AreOthers p t 0 k (d + 1)
one-more p t k d before here = λ e below. elim (last-or-before e d below) [
  | inl last ↦ subst (λ x. IsOther (t.key 0 (path_slot p 0 k x)) k) (sym last) here
  | inr less ↦ before e less
]
  where
    last-or-before : (e d : ℕ) → e < d + 1 → (e ≡ d) ⊎ (e < d)
    last-or-before e d below = grind arith

-- the way to the home slot in table 1, for a key with the first slot of table 0
pub way-home :
    (p : Plan) (t : Tables) (j k : ℕ) → 0 < size_of p 1 → j ≡ path_slot p 1 k 0
    → 0 < size_of p 0 → t.key 0 0 ≡ Claimed k → HasWay p t 1 j k
way-home p t j k in_table at below claimed = record {
  path = record {
    distance = 0;
    in_table = in_table;
    at = sym at;
    passed = λ e less. absurd (omega (arith, less));
  };
  reason = inl (record { slot = 0; in_table = below; is = claimed });
}

module _ {p : Plan} {before after : SeenBy} where
  -- a step that was to copy a number was one, and left a value, also where one was there already
  pub copied-step :
      (x v : ValueState) {n : ℕ} {own : List Event}
      → (v ≡ Null → Extended p before after own 1 × (x ≡ Live n))
      → (v ≢ Null → Extended p before after [] 1 × (x ≡ v))
      → ((es : List Event) × Extended p before after es 1) × (x ≢ Null)
  copied-step x Null won lost = let it = won refl in ((_, it.0), λ null. cc)
  copied-step x Tombstone won lost = let it = lost (λ e. cc) in ((_, it.0), λ null. cc)
  copied-step x (Live m) won lost = let it = lost (λ e. cc) in ((_, it.0), λ null. cc)
  copied-step x PrimedNull won lost = let it = lost (λ e. cc) in ((_, it.0), λ null. cc)
  copied-step x PrimedTombstone won lost = let it = lost (λ e. cc) in ((_, it.0), λ null. cc)
  copied-step x (Primed m) won lost = let it = lost (λ e. cc) in ((_, it.0), λ null. cc)
  copied-step x (Finished m) won lost = let it = lost (λ e. cc) in ((_, it.0), λ null. cc)

  -- a step that was to finish a number was one, whether or not it was finished already
  pub finished-step :
      (v : ValueState) (n : ℕ) {own : List Event} {now stays : ℕ → Type 0}
      → (v ≡ Primed n) ⊎ (v ≡ Finished n)
      → ((m : ℕ) → v ≡ Primed m → Extended p before after own 1 × now m)
      → ((m : ℕ) → v ≡ Finished m → Extended p before after [] 1 × stays m)
      → (es : List Event) × Extended p before after es 1
  finished-step v n held won lost = elim held [
    | inl is_primed ↦ (_, (won n is_primed).0)
    | inr is_finished ↦ (_, (lost n is_finished).0)
  ]
