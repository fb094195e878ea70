-- What is so where a key is at home in a table.
use Rattle.std.proofs.Common.{◌≡◌, ◌≢◌, ◌∙◌, ℕ, zero, suc, ◌+◌, ◌<◌, ap, subst, sym, inl, inr, refl, arith}
use Rattle.std.proofs.lemmas.Nat.{mod_below, pow_pos}
use Rattle.nb_core.specs.Laws.{Lasts}
use Rattle.nb_core.specs.Plans.{Plan, generations_of, size_of}
use Rattle.nb_core.specs.Tables.{AreOthers, IsFinishedValue, IsSlot, IsUnprimed, Tables, path_slot}
use Rattle.nb_core.specs.declared.states.KeyState.{KeyState}
use Rattle.nb_core.specs.declared.states.KeyState.TheVariants.{Claimed, Dead, Empty}
use Rattle.nb_core.specs.declared.states.ValueState.{ValueState}
use Rattle.nb_core.specs.declared.states.ValueState.TheVariants.{Null, Tombstone, Live, PrimedNull, PrimedTombstone, Primed, Finished}
use Rattle.nb_map.specs.Progress.{IsAtHome, IsHomeSlot}

-- a table has a home slot for each key
pub home-in : (p : Plan) (g k : ℕ) → g < generations_of p → IsSlot p g (path_slot p g k 0)
home-in p g k table = (table, mod_below (k + 0) (size_of p g) (pow_pos _))

-- ---- a home slot that is the key's own

-- isn't another's
pub own-first :
    (p : Plan) (t : Tables) (g k d : ℕ) → IsHomeSlot p t g k → 0 < d → AreOthers p t g k d → ⊥
own-first p t g k d own some others =
    let first = others 0 some in first.differs (let both : Claimed first.other ≡ Claimed k =
    sym first.is ∙ own in cc)

-- ---- what isn't at home

pub others-away :
    (p : Plan) (t : Tables) (g k d : ℕ) → 0 < d → AreOthers p t g k d → IsAtHome p t g k → ⊥
others-away p t g k d some others home = elim home [
  | inl empty ↦ (let first = others 0 some in let both : Empty ≡ Claimed first.other = sym empty
      ∙ first.is in cc)
  | inr own ↦ own-first p t g k d own.0 some others
]

pub dead-away :
    (p : Plan) (t : Tables) (g k : ℕ) → t.key g (path_slot p g k 0) ≡ Dead → IsAtHome p t g k → ⊥
dead-away p t g k dead home = elim home [
  | inl empty ↦ (let both : Empty ≡ Dead = sym empty ∙ dead in cc)
  | inr own ↦ (let both : Claimed k ≡ Dead = sym own.0 ∙ dead in cc)
]

pub other-away :
    (p : Plan) (t : Tables) (g k other : ℕ) → t.key g (path_slot p g k 0) ≡ Claimed other
    → other ≢ k → IsAtHome p t g k → ⊥
other-away p t g k other claimed differs home = elim home [
  | inl empty ↦ (let both : Empty ≡ Claimed other = sym empty ∙ claimed in cc)
  | inr own ↦ differs (let both : Claimed other ≡ Claimed k = sym claimed ∙ own.0 in cc)
]

pub primed-away :
    (p : Plan) (t : Tables) (g k : ℕ) → IsHomeSlot p t g k
    → (IsUnprimed (t.value g (path_slot p g k 0)) → ⊥) → IsAtHome p t g k → ⊥
primed-away p t g k claimed primed home = elim home [
  | inl empty ↦ (let both : Empty ≡ Claimed k = sym empty ∙ claimed in cc)
  | inr own ↦ primed own.1
]

-- a key isn't at home whose slot lies further on its path, or isn't open at home
pub behind-away :
    (p : Plan) (t : Tables) (g k d : ℕ) → AreOthers p t g k d → (d ≡ 0 → IsAtHome p t g k → ⊥)
    → IsAtHome p t g k → ⊥
behind-away p t g k zero others first home = first refl home
behind-away p t g k (suc d) others first home =
    others-away p t g k (suc d) (omega arith) others home

-- a closed slot on its path, behind slots of other keys
pub closed-away :
    (p : Plan) (t : Tables) (g k d : ℕ) → AreOthers p t g k d
    → t.key g (path_slot p g k d) ≡ Dead → IsAtHome p t g k → ⊥
closed-away p t g k d others dead =
    behind-away p t g k d others
    (λ none. dead-away p t g k (subst (λ d. t.key g (path_slot p g k d) ≡ Dead) none dead))

-- and so its own slot there whose value is primed
pub copied-away :
    (p : Plan) (t : Tables) (g k d i : ℕ) → AreOthers p t g k d → path_slot p g k d ≡ i
    → t.key g i ≡ Claimed k → (IsUnprimed (t.value g i) → ⊥) → IsAtHome p t g k → ⊥
copied-away p t g k d i others is claimed primed =
    behind-away p t g k d others
    (λ none.
    let at : path_slot p g k 0 ≡ i = ap (path_slot p g k) (sym none) ∙ is in
    primed-away p t g k (subst (λ i. t.key g i ≡ Claimed k) (sym at) claimed)
    (subst (λ i. IsUnprimed (t.value g i) → ⊥) (sym at) primed))

-- ---- what was so before

-- a value that isn't primed wasn't before
unprimed-before :
    (p : Plan) (t u : Tables) → Lasts p t u → (g i : ℕ) → IsSlot p g i → (v : ValueState)
    → t.value g i ≡ v → IsUnprimed (u.value g i)
    → IsUnprimed v
unprimed-before p t u lasting g i slot Null is now = tt
unprimed-before p t u lasting g i slot Tombstone is now = tt
unprimed-before p t u lasting g i slot (Live n) is now = tt
unprimed-before p t u lasting g i slot PrimedNull is now =
    subst IsUnprimed (lasting.final g i slot (subst IsFinishedValue (sym is) refl) ∙ is) now
unprimed-before p t u lasting g i slot PrimedTombstone is now =
    subst IsUnprimed (lasting.final g i slot (subst IsFinishedValue (sym is) refl) ∙ is) now
unprimed-before p t u lasting g i slot (Primed n) is now =
    elim (lasting.primed_or_finished g i n slot (inl is)) [
      | inl same ↦ subst IsUnprimed same now
      | inr done ↦ subst IsUnprimed done now
    ]
unprimed-before p t u lasting g i slot (Finished n) is now =
    subst IsUnprimed (lasting.final g i slot (subst IsFinishedValue (sym is) refl) ∙ is) now

-- a key that is at home was so before
pub home-before :
    (p : Plan) (t u : Tables) → Lasts p t u → (g k : ℕ) → g < generations_of p → IsAtHome p u g k
    → IsAtHome p t g k
home-before p t u lasting g k table home = was (t.key g (path_slot p g k 0)) refl
  where
    slot : IsSlot p g (path_slot p g k 0)
    slot = home-in p g k table

    was : (s : KeyState) → t.key g (path_slot p g k 0) ≡ s → IsAtHome p t g k
    was Empty is = inl is
    was Dead is = absurd (dead-away p u g k (lasting.dead g _ slot is) home)
    was (Claimed j) is =
        let still = lasting.claimed g _ j slot is in
        elim home [
          | inl empty ↦ absurd (let both : Empty ≡ Claimed j = sym empty ∙ still in cc)
          | inr own ↦
              let same : j ≡ k = (let both : Claimed j ≡ Claimed k = sym still ∙ own.0 in cc) in
              inr (is ∙ ap Claimed same, unprimed-before p t u lasting g _ slot _ refl own.1)
        ]
