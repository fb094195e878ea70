-- What the search for the place of a key finds.
use Rattle.std.proofs.Common.{◌≡◌, ℕ, ◌+◌, ◌-◌, ◌<◌, ◌≤◌, ◌∙◌, zero, suc, ap, sym, subst, refl, inl, inr, Some, None, arith}
use Rattle.std.proofs.lemmas.Bool.{cases_order}
use Rattle.nb_core.specs.Plans.{Plan, generations_of, size_of}
use Rattle.nb_core.specs.Tables.{Tables, tables_at}
use Rattle.nb_core.specs.Meaning.{place_from, place_of, slot_among}
use Rattle.nb_core.specs.Laws.{HeldHasPlace, IsFirstPlace, PlaceIs}
use Rattle.nb_core.proofs.Keeping.{sound}
use Rattle.nb_core.proofs.Computed.{number_at, number_at_map}
use Rattle.nb_core.proofs.Newest.{newest}
use Rattle.nb_core.proofs.Places.{place_from-first, place_from-found, place_from-next}
use Rattle.nb_core.proofs.Shown.{number-none}
use Rattle.nb_core.proofs.Slots.{Nowhere, Somewhere, slot_among-at, slot_among-is}
use Rattle.nb_core.proofs.Sound.{HasNoSlot, IsSound, finished-value}

module _ (p : Plan) (t : Tables) (k : ℕ) where
  -- the first place is found
  first_place-found : IsSound p t → (g n f i : ℕ) → f < g + n → IsFirstPlace p t g k f i
      → place_from p t k g n ≡ Some (f, i)
  first_place-found s g zero f i within first = absurd (omega (arith, first.from))
  first_place-found s g (suc n) f i within first =
      elim (cases_order g f) [
        | inl same ↦
            let at = subst (λ x. slot_among t x k (size_of p x) ≡ Some i) (sym same)
            (slot_among-at p t s f i k first.slot first.is) in
            place_from-found p t k g n i at ∙ ap (λ x. Some (x, i)) same
        | inr (inl below) ↦
            let behind : IsFirstPlace p t (suc g) k f i = record {
              from = below;
              slot = first.slot;
              is = first.is;
              none = λ e from before has. first.none e (omega arith) before has;
            } in
            elim (slot_among-is t g k (size_of p g)) [
              | Somewhere j in_table is found ↦
                  absurd (first.none g (omega arith) below
                  (record { slot = j; in_table = in_table; is = is }))
              | Nowhere none found ↦ place_from-next p t k g n found
                  ∙ first_place-found s (suc g) n f i (omega arith) behind
            ]
        | inr (inr above) ↦ absurd (omega (arith, first.from))
      ]

  -- where no place is found, the key has no slot in the tables that were searched
  nowhere-no_slot : (g n : ℕ) → place_from p t k g n ≡ None → (f : ℕ) → g ≤ f → f < g + n
      → HasNoSlot p t f k
  nowhere-no_slot g zero e f from within = absurd (omega arith)
  nowhere-no_slot g (suc n) e f from within =
      elim (slot_among-is t g k (size_of p g)) [
        | Somewhere j in_table is found ↦ (let some = place_from-found p t k g n j found in
            absurd cc)
        | Nowhere none found ↦ elim (cases_order g f) [
          | inl same ↦ subst (λ x. HasNoSlot p t x k) same none
          | inr (inl above) ↦ nowhere-no_slot (suc g) n (sym (place_from-next p t k g n found) ∙ e)
              f above (omega arith)
          | inr (inr under) ↦ absurd (omega arith)
        ]
      ]

pub place_is : PlaceIs
place_is p plan h legal g k f i =
    let t = tables_at p h in
    let n = generations_of p - g in (
      place_from-first p t k g n (f, i) (omega arith),
      λ first. let within = first.slot.0 in
          first_place-found p t k (sound p h plan legal) g n f i (omega arith) first,
    )

pub held_has_place : HeldHasPlace
held_has_place p plan h legal g k n within complete is =
    let t = tables_at p h in
    elim (place_of p h g k) as (λ found. place_of p h g k ≡ found → (place : ℕ × ℕ)
    × (found ≡ Some place)) [
      | Some place ↦ λ e. (place, refl)
      | None ↦ λ nowhere.
          let none =
          number-none p t plan (sound p h plan legal) k (number_at h k) (newest p h plan legal k) g
          (λ f below i slot claimed. finished-value t f i k (complete f below i slot.1) claimed)
          (λ f from i slot claimed content.
          let in_chain = slot.0 in
          nowhere-no_slot p t k g (generations_of p - g) nowhere f from (omega arith)
          i slot.1 claimed) in
          let same : Some n ≡ None = sym is ∙ number_at_map h k ∙ none in
          absurd cc
    ] refl
