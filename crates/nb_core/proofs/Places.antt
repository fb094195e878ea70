-- The first place of a key is the same for ever.
use Rattle.std.proofs.Common.{◌≡◌, ◌∙◌, ℕ, ◌-◌, ◌<◌, ◌≤◌, zero, suc, ap, sym, refl, subst, inl, inr, Some, None, option_map, arith}
use Rattle.std.proofs.lemmas.Bool.{cases_order}
use Rattle.nb_core.specs.Plans.{Plan, generations_of, size_of}
use Rattle.nb_core.specs.Tables.{HasSlot, IsComplete, Tables}
use Rattle.nb_core.specs.Meaning.{first_place, place_from, slot_among}
use Rattle.nb_core.specs.Laws.{IsFirstPlace, Lasts}
use Rattle.nb_core.proofs.Slots.{Nowhere, Somewhere, slot_among-at, slot_among-is}
use Rattle.nb_core.proofs.Sound.{HasNoSlot, IsSound, claimed-same, complete-below, dead-unclaimed, finished-not_empty}
use Rattle.nb_core.specs.declared.states.KeyState.{KeyState}
use Rattle.nb_core.specs.declared.states.KeyState.TheVariants.{Empty, Dead, Claimed}

-- A table in which a key has no slot is complete, if the key has one in a later table.
no_slot-complete :
    (p : Plan) (t : Tables) → IsSound p t → (f g k : ℕ) → f < generations_of p → g < f
    → HasSlot p t f k → HasNoSlot p t g k
    → IsComplete p t g
no_slot-complete p t s f g k within below has none =
    elim (cases_order (suc g) f) [
      | inl next ↦
          let above = subst (λ n. HasSlot p t n k) (sym next) has in
          elim (s.below g k (omega arith) above) [
            | inl here ↦ absurd (none here.slot here.in_table here.is)
            | inr complete ↦ complete
          ]
      | inr (inl less) ↦ complete-below p t s f g less
          (s.claimed f has.slot k (within, has.in_table) has.is).installed
      | inr (inr more) ↦ absurd (omega arith)
    ]

-- the first place of a key is in the first table where it has a slot
pub place_from-found :
    (p : Plan) (t : Tables) (k g n i : ℕ) → slot_among t g k (size_of p g) ≡ Some i
    → place_from p t k g (suc n) ≡ Some (g, i)
place_from-found p t k g n i found =
    ap (λ o. first_place (option_map (λ j. (g, j)) o) (place_from p t k (suc g) n)) found

-- it is not in a table where the key has none
pub place_from-next :
    (p : Plan) (t : Tables) (k g n : ℕ) → slot_among t g k (size_of p g) ≡ None
    → place_from p t k g (suc n) ≡ place_from p t k (suc g) n
place_from-next p t k g n found =
    ap (λ o. first_place (option_map (λ j. (g, j)) o) (place_from p t k (suc g) n)) found

-- a place behind a table without a slot of the key is the first one from that table on
first_place-behind :
    (p : Plan) (t : Tables) (g k f i : ℕ) → HasNoSlot p t g k → IsFirstPlace p t (suc g) k f i
    → IsFirstPlace p t g k f i
first_place-behind p t g k f i away first = record {
  from = omega (arith, first.from);
  slot = first.slot;
  is = first.is;
  none = λ e from before has. elim (cases_order g e) [
    | inl same ↦ (let here = subst (λ e. HasSlot p t e k) (sym same) has in
        away here.slot here.in_table here.is)
    | inr (inl below) ↦ first.none e below before has
    | inr (inr above) ↦ absurd (omega arith)
  ];
}

-- what is found is the first place
pub place_from-first :
    (p : Plan) (t : Tables) (k g n : ℕ) (place : ℕ × ℕ) → n ≤ generations_of p - g
    → place_from p t k g n ≡ Some place
    → IsFirstPlace p t g k place.0 place.1
place_from-first p t k g zero place few e = absurd cc
place_from-first p t k g (suc n) place few e =
    elim (slot_among-is t g k (size_of p g)) [
      | Somewhere i below is found ↦
          let first = place_from-found p t k g n i found in
          let here : (g, i) ≡ place = cc in
          subst (λ q. IsFirstPlace p t g k q.0 q.1) here
          (record {
            from = omega arith;
            slot = (omega arith, below);
            is = is;
            none =
                λ e from before has. omega arith;
          })
      | Nowhere none found ↦
          let rest = sym (place_from-next p t k g n found) ∙ e in
          first_place-behind p t g k place.0 place.1 none
          (place_from-first p t k (suc g) n place (omega arith) rest)
    ]

-- ---- later tables

module _ (p : Plan) (t u : Tables) (s : IsSound p t) (v : IsSound p u) (lasts : Lasts p t u) where
  -- a key that a complete table has no slot for gets none there
  no_slot-later : (g k : ℕ) → g < generations_of p → IsComplete p t g → HasNoSlot p t g k
      → HasNoSlot p u g k
  no_slot-later g k within complete none i below later = by_key (t.key g i) refl
    where
      by_key : (key : KeyState) → t.key g i ≡ key → ⊥
      by_key Empty is = finished-not_empty p t s g i (within, below) (complete i below) is
      by_key Dead is = dead-unclaimed (lasts.dead g i (within, below) is) k later
      by_key (Claimed j) is =
          let same : j ≡ k = claimed-same (sym (lasts.claimed g i j (within, below) is) ∙ later) in
          none i below (is ∙ ap Claimed same)

  -- where a key has no slot in a table, and one in a higher table, none is found in the first one
  -- later
  slot_among-later :
      (f g k : ℕ) → f < generations_of p → g < f → HasSlot p t f k → HasNoSlot p t g k
      → slot_among u g k (size_of p g) ≡ None
  slot_among-later f g k within below has none =
      elim (slot_among-is u g k (size_of p g)) as (λ found. slot_among u g k (size_of p g) ≡ None) [
        | Somewhere i i_below is found ↦
            let complete = no_slot-complete p t s f g k within below has none in
            absurd (no_slot-later g k (omega arith) complete none i i_below is)
        | Nowhere _ found ↦ found
      ]

  -- the first place of a key in so many tables is the same later
  place_from-later :
      (k g n : ℕ) (place : ℕ × ℕ) → n ≤ generations_of p - g → place_from p t k g n ≡ Some place
      → place_from p u k g n ≡ Some place
  place_from-later k g zero place few e = absurd cc
  place_from-later k g (suc n) place few e =
      elim (slot_among-is t g k (size_of p g)) [
        | Somewhere i below is found ↦
            let within : g < generations_of p = omega arith in
            let later = slot_among-at p u v g i k (within, below)
            (lasts.claimed g i k (within, below) is) in
            place_from-found p u k g n i later ∙ sym (place_from-found p t k g n i found) ∙ e
        | Nowhere none found ↦
            let rest = sym (place_from-next p t k g n found) ∙ e in
            let first = place_from-first p t k (suc g) n place (omega arith) rest in
            let has : HasSlot p t place.0 k =
            record { slot = place.1; in_table = first.slot.1; is = first.is } in
            let later = slot_among-later place.0 g k first.slot.0 first.from has none in
            place_from-next p u k g n later ∙ place_from-later k (suc g) n place (omega arith) rest
      ]

  -- the first place of a key from a table on is the same in later tables
  pub place_from-same :
      (g k : ℕ) (place : ℕ × ℕ) → place_from p t k g (generations_of p - g) ≡ Some place
      → place_from p u k g (generations_of p - g) ≡ Some place
  place_from-same g k place e = place_from-later k g (generations_of p - g) place (omega arith) e
