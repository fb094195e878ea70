-- The slot of a key in a table, and its value there, as the searches of Meaning find them.
use Rattle.std.proofs.Common.{◌≡◌, ◌≢◌, ◌∙◌, ℕ, ◌<◌, ◌⊎◌, zero, suc, ap, refl, inl, inr, not, Option, Some, None, option_map, arith}
use Rattle.std.proofs.lemmas.Bool.{cond_both}
use Rattle.nb_core.specs.Plans.{Plan, size_of}
use Rattle.nb_core.specs.Tables.{HasSlot, IsSlot, Tables}
use Rattle.nb_core.specs.Meaning.{is_claimed_by, slot_among, value_in}
use Rattle.nb_core.proofs.Computed.{below_suc, is_claimed_by-true, unclaimed}
use Rattle.nb_core.proofs.Sound.{HasNoSlot, IsSound, one_slot}
use Rattle.nb_core.specs.declared.states.KeyState.TheVariants.{Claimed}

-- ---- the search for a slot

-- what the search for a key among the first n slots of a table finds
pub data IsFound (t : Tables) (g k n : ℕ) (found : Option ℕ) : Type 0 where
  Somewhere : (i : ℕ) → i < n → t.key g i ≡ Claimed k → found ≡ Some i → IsFound t g k n found
  Nowhere : ((i : ℕ) → i < n → t.key g i ≢ Claimed k) → found ≡ None → IsFound t g k n found

-- what is found among n slots is found among one more that isn't the key's
IsFound-suc :
    (t : Tables) (g k n : ℕ) (found : Option ℕ) → t.key g n ≢ Claimed k → IsFound t g k n found
    → IsFound t g k (suc n) found
IsFound-suc t g k n found away (Somewhere i below is e) = Somewhere i (omega arith) is e
IsFound-suc t g k n found away (Nowhere none e) =
    Nowhere (below_suc (λ i. t.key g i ≢ Claimed k) n away none) e

-- the search finds a slot of the key, or none is there
pub slot_among-is : (t : Tables) (g k n : ℕ) → IsFound t g k n (slot_among t g k n)
slot_among-is t g k zero = Nowhere (λ i below. absurd (omega arith)) refl
slot_among-is t g k (suc n) =
    cond_both (is_claimed_by k (t.key g n)) (Some n) (slot_among t g k n) (IsFound t g k (suc n))
    (λ here. Somewhere n (omega arith) (is_claimed_by-true k (t.key g n) here) refl)
    (λ away. IsFound-suc t g k n (slot_among t g k n) (unclaimed k (t.key g n) (ap not away))
    (slot_among-is t g k n))

-- a key has a slot in a table, or no slot there is its own
pub has_slot_or_none : (p : Plan) (t : Tables) (g k : ℕ) → HasSlot p t g k ⊎ HasNoSlot p t g k
has_slot_or_none p t g k =
    elim (slot_among-is t g k (size_of p g)) [
      | Somewhere i below is found ↦ inl (record { slot = i; in_table = below; is = is })
      | Nowhere none found ↦ inr none
    ]

-- a key's slot in a table is the one that the search finds
pub slot_among-at :
    (p : Plan) (t : Tables) → IsSound p t → (g i k : ℕ) → IsSlot p g i → t.key g i ≡ Claimed k
    → slot_among t g k (size_of p g) ≡ Some i
slot_among-at p t s g i k slot is =
    elim (slot_among-is t g k (size_of p g)) [
      | Somewhere j below j_is found ↦ found
          ∙ ap Some (one_slot p t s g j i k (slot.0, below) slot j_is is)
      | Nowhere none found ↦ absurd (none i slot.1 is)
    ]

-- ---- the value in a key's slot

-- a key's value in a table, by what the search for its slot finds
value_in-is :
    (p : Plan) (t : Tables) (g k : ℕ) (o : Option ℕ) → slot_among t g k (size_of p g) ≡ o
    → value_in p t g k ≡ option_map (t.value g) o
value_in-is p t g k o found = ap (option_map (t.value g)) found

-- a key's value in a table is the one in its slot
pub value_in-some :
    (p : Plan) (t : Tables) → IsSound p t → (g i k : ℕ) → IsSlot p g i → t.key g i ≡ Claimed k
    → value_in p t g k ≡ Some (t.value g i)
value_in-some p t s g i k slot is = value_in-is p t g k (Some i) (slot_among-at p t s g i k slot is)

-- what a look at a table finds of a key: no slot, or a value
pub data IsLook (p : Plan) (t : Tables) (g k : ℕ) : Type 0 where
  Away : HasNoSlot p t g k → value_in p t g k ≡ None → IsLook p t g k
  Here : (i : ℕ) → i < size_of p g → t.key g i ≡ Claimed k → value_in p t g k ≡ Some (t.value g i)
      → IsLook p t g k

pub look : (p : Plan) (t : Tables) (g k : ℕ) → IsLook p t g k
look p t g k =
    elim (slot_among-is t g k (size_of p g)) [
      | Somewhere i below is found ↦ Here i below is (value_in-is p t g k (Some i) found)
      | Nowhere none found ↦ Away none (value_in-is p t g k None found)
    ]
