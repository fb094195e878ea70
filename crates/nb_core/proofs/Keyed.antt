-- The plan for a number of keys: its exponents, its room, and which numbers are refused.
use Rattle.std.proofs.Common.{◌≡◌, ◌∙◌, ℕ, zero, suc, ◌+◌, ◌*◌, ◌-◌, ◌^◌, ◌<◌, ◌≤◌, max, min, inl, inr, refl, Ok, add-one, ap, arith, subst, sym}
use lib.Count.{ones}
use Rattle.std.proofs.Math.Nat.{le-max_left, le-max_right, pow-suc, sub-add-eq-max}
use Rattle.std.proofs.Math.Pow.{pow_mono}
use Rattle.std.proofs.lemmas.Bool.{cases_lt, le-leb, lt-leb}
use Rattle.nb_core.specs.declared.shapes.TheConstants.{MOST_KEYS, SHARED_STRIPES}
use Rattle.nb_core.specs.declared.shapes.keys.TheConstants.{KEYS_CHUNK, SHORT_PATH}
use Rattle.nb_core.specs.Plans.{HasRoomFor, Plan, checked_chunk, checked_reprobes, exponent_for, first_exponent, plan, plan_for_keys, slots_for, steps_down, tables_for}
use Rattle.nb_core.proofs.Stepped.{steps_down-last}

-- the first exponent with room is the one that has room where none before it has
pub first_exponent-is :
    (tries e slots last : ℕ) → e ≤ last → last ≤ e + tries → slots ≤ 2 ^ last
    → ((k : ℕ) → e ≤ k → k < last → 2 ^ k < slots) → first_exponent tries e slots ≡ last
unfolding first_exponent
first_exponent-is zero e slots last from to room none =
    let at : e ≡ last = omega arith in
    at
first_exponent-is (suc tries) e slots last from to room none =
    elim (cases_lt e last) [
      | inl less ↦
          rw (lt-leb slots (2 ^ e) (none e (omega arith) less))
          (first_exponent-is tries (suc e) slots last (omega arith) (omega arith) room
          (λ k after below. none k (omega arith) below))
      | inr more ↦
          let at : e ≡ last = omega arith in
          let holds : slots ≤ 2 ^ e = rw at room in
          rw (le-leb slots (2 ^ e) holds) at
    ]

-- what the logarithm of a number of slots says of the exponent
pub record IsExponent (most low : ℕ) : Type 0 where
  pub first : exponent_for most ≡ low + 1
  pub least : 4 ≤ low
  pub greatest : low ≤ 27

pub exponent-found :
    (most slots low : ℕ) → most ≤ MOST_KEYS → slots ≡ max (slots_for most) 32
    → 2 ^ low ≤ slots - 1 → slots - 1 < 2 * 2 ^ low → IsExponent most low
exponent-found most slots low few is under over = record {
  first = first_exponent-is 23 5 (slots_for most) (low + 1) (omega (arith, least))
      (omega (arith, greatest)) room
      (λ k after below. larger k after (omega arith));
  least = least;
  greatest = greatest;
} where
  wanted : slots_for most ≤ slots
  wanted = omega (arith, is, le-max_left (slots_for most) 32)

  room : slots_for most ≤ 2 ^ (low + 1)
  room =
      let doubles : 2 ^ (low + 1) ≡ 2 ^ low * 2 =
      ap (λ n. 2 ^ n) (add-one low) ∙ pow-suc 2 low in
      omega (arith, wanted, over, doubles)

  thirty-two : 32 ≤ slots
  thirty-two = omega (arith, is, le-max_right (slots_for most) 32)

  least : 4 ≤ low
  least = elim (cases_lt low 4) [
    | inl less ↦
        let few : 2 ^ low ≤ 2 ^ 3 = pow_mono {j = 3} (omega (arith, less)) in
        absurd (omega (arith, few, thirty-two, over))
    | inr more ↦ more
  ]

  greatest : low ≤ 27
  greatest = elim (cases_lt 27 low) [
    | inl more ↦
        let many : 2 ^ 28 ≤ 2 ^ low = pow_mono more in
        absurd (omega (arith, many, under, few, is))
    | inr less ↦ less
  ]

  larger : (k : ℕ) → 5 ≤ k → k ≤ low → 2 ^ k < slots_for most
  larger k after below =
      let some : 2 ^ 5 ≤ 2 ^ k = pow_mono after in
      let rises : 2 ^ k ≤ 2 ^ low = pow_mono below in
      omega (arith, some, under, is, sub-add-eq-max (slots_for most) 32)

-- tuned, tables in steps are the plan for so many keys
pub tuned-steps :
    (most last seats stripes : ℕ) (made limited : Plan) → exponent_for most ≡ last
    → stripes ≡ min seats SHARED_STRIPES
    → made ≡ plan (steps_down (tables_for last) last) seats stripes
    → checked_reprobes made SHORT_PATH ≡ Ok limited
    → checked_chunk limited KEYS_CHUNK ≡ Ok (plan_for_keys most seats)
unfolding ones
tuned-steps most last seats stripes made limited at shared is limits =
    let untuned = plan (steps_down (tables_for last) last) seats stripes in
    let whole : limited ≡ record untuned { reprobes = SHORT_PATH } = cc in
    rw (whole, at, shared) refl

-- if the largest table that is tried has so many slots, the one that is found has them
first_exponent-room :
    (tries e slots : ℕ) → slots ≤ 2 ^ (e + tries) → slots ≤ 2 ^ first_exponent tries e slots
unfolding first_exponent
first_exponent-room zero e slots room =
    let at : e + 0 ≡ e = omega arith in
    subst (λ n. slots ≤ 2 ^ n) at room
first_exponent-room (suc tries) e slots room =
    elim (cases_lt (2 ^ e) slots) [
      | inl more ↦
          let at : e + suc tries ≡ suc e + tries = omega arith in
          rw (lt-leb slots (2 ^ e) more)
          (first_exponent-room tries (suc e) slots (subst (λ n. slots ≤ 2 ^ n) at room))
      | inr fits ↦ rw (le-leb slots (2 ^ e) fits) fits
    ]

exponent-room : (most : ℕ) → most ≤ MOST_KEYS → slots_for most ≤ 2 ^ exponent_for most
exponent-room most few = first_exponent-room 23 5 (slots_for most) (omega (arith, few))

-- the last table has room for so many keys
pub keys-room :
    (most seats : ℕ) → most ≤ MOST_KEYS → HasRoomFor (plan_for_keys most seats) most
keys-room most seats few =
    subst (λ e. slots_for most ≤ 2 ^ e)
    (sym (steps_down-last (tables_for (exponent_for most)) (exponent_for most) (omega arith)))
    (exponent-room most few)
