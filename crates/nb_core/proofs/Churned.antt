-- The plan for keys that come and go: the smallest tables that suit, and the fewest of them.
use Rattle.std.proofs.Common.{◌≡◌, ◌∙◌, ℕ, zero, suc, ◌+◌, ◌*◌, ◌-◌, ◌^◌, ◌<◌, ◌≤◌, max, min, Bool, true, false, replicate, leb, inl, inr, Ok, ap, arith, refl}
use lib.Count.{ones}
use Rattle.std.specs.List.Sorted.{IsNonDecreasing}
use Rattle.std.proofs.Math.Nat.{pow-suc}
use Rattle.std.proofs.Math.Pow.{pow_mono}
use Rattle.std.proofs.lemmas.Bool.{and_from, and_left, and_right, cases_lt, le-leb, lt-leb}
use Rattle.std.proofs.lemmas.List.{get_or-replicate, length-replicate}
use Rattle.std.proofs.lemmas.List.Folds.{sum_by-replicate}
use Rattle.std.proofs.lemmas.Nat.{mul-le, row_fits}
use Rattle.nb_core.specs.declared.shapes.TheConstants.{MAX_GENERATIONS, MAX_SEATS, MAX_SLOTS, SHARED_STRIPES}
use Rattle.nb_core.specs.declared.shapes.churn.TheConstants.{CHURN_GREATEST, CHURN_LEAST}
use Rattle.nb_core.specs.Plans.{Plan, checked_chunk, checked_for_churn, exponent_for_churn, first_passing, has_room_for_churn, plan, plan_for_churn, room_for_churn, slots_for, slots_in, suits_churn, tables_for_churn}
use Rattle.nb_core.proofs.Checks.{is_within-true}

-- the first number that passes is the one that passes where none before it does
first_passing-is :
    (test : ℕ → Bool) (tries n first : ℕ) → n ≤ first → first ≤ n + tries
    → (first < n + tries → test first ≡ true)
    → ((k : ℕ) → n ≤ k → k < first → test k ≡ false) → first_passing test tries n ≡ first
unfolding first_passing
first_passing-is test zero n first from to passes none =
    let at : n ≡ first = omega arith in
    at
first_passing-is test (suc tries) n first from to passes none =
    elim (cases_lt n first) [
      | inl less ↦
          let fails : test n ≡ false = none n (omega arith) less in
          rw fails
          (first_passing-is test tries (suc n) first (omega arith) (omega arith)
          (λ within. passes (omega arith))
          (λ k after below. none k (omega arith) below))
      | inr more ↦
          let at : n ≡ first = omega arith in
          let holds : test n ≡ true = rw at (passes (omega arith)) in
          rw holds at
    ]

-- what the logarithm of a number of slots says of the smallest exponent
pub record IsSmallest (live ever low : ℕ) : Type 0 where
  pub first : low + 1 ≤ CHURN_GREATEST → exponent_for_churn live ever ≡ low + 1
  pub past : CHURN_GREATEST < low + 1 → exponent_for_churn live ever ≡ CHURN_GREATEST + 1
  pub least : CHURN_LEAST ≤ low + 1
  pub twice : 2 * live ≤ 2 ^ (low + 1)
  pub room : slots_for ever ≤ room_for_churn MAX_GENERATIONS (2 ^ (low + 1)) live

pub smallest-found :
    (live ever share slots low : ℕ) → slots_for ever + live * 15 ≤ share * 16
    → share * 16 < slots_for ever + live * 15 + 16 → slots ≡ max (max share (2 * live)) 512
    → 2 ^ low ≤ slots - 1 → slots - 1 < 2 * 2 ^ low → IsSmallest live ever low
smallest-found live ever share slots low some few is under over = record {
  first = λ within. first_passing-is (suits_churn live ever) 18 9 (low + 1) (omega (arith, least))
      (omega arith) (λ _. suits) (λ k after below. smaller k after (omega arith));
  past = λ above. first_passing-is (suits_churn live ever) 18 9 27 (omega arith) (omega arith)
      (λ within. absurd (omega arith)) (λ k after below. smaller k after (omega arith));
  least = omega (arith, least);
  twice = twice;
  room = room;
} where
  wanted : slots ≤ 2 ^ (low + 1)
  wanted =
      let doubles : 2 ^ (low + 1) ≡ 2 ^ low * 2 =
      ap (λ n. 2 ^ n) (let next : low + 1 ≡ suc low = omega arith in next) ∙ pow-suc 2 low in
      omega (arith, over, doubles)

  least : 8 ≤ low
  least = elim (cases_lt low 8) [
    | inl less ↦
        let small : 2 ^ low ≤ 2 ^ 7 = pow_mono {j = 7} (omega (arith, less)) in
        absurd (omega (arith, small, over, is))
    | inr more ↦ more
  ]

  twice : 2 * live ≤ 2 ^ (low + 1)
  twice = omega (arith, wanted, is)

  room : slots_for ever ≤ room_for_churn MAX_GENERATIONS (2 ^ (low + 1)) live
  room = omega (arith, wanted, is, some, twice)

  suits : suits_churn live ever (low + 1) ≡ true
  suits =
      and_from (leb (2 * live) (2 ^ (low + 1)))
      (has_room_for_churn live ever (2 ^ (low + 1)) MAX_GENERATIONS) (le-leb _ _ twice)
      (le-leb _ _ room)

  smaller : (k : ℕ) → 9 ≤ k → k ≤ low → suits_churn live ever k ≡ false
  smaller k after below =
      let enough : 2 ^ 9 ≤ 2 ^ k = pow_mono after in
      let fewer : 2 ^ k ≤ 2 ^ low = pow_mono below in
      elim (cases_lt (2 ^ k) (2 * live)) [
        | inl less ↦
            and_left (leb (2 * live) (2 ^ k))
            (has_room_for_churn live ever (2 ^ k) MAX_GENERATIONS) (lt-leb _ _ less)
        | inr more ↦
            let lacks : room_for_churn MAX_GENERATIONS (2 ^ k) live < slots_for ever =
            omega (arith, enough, fewer, under, is, few, more) in
            and_right (leb (2 * live) (2 ^ k))
            (has_room_for_churn live ever (2 ^ k) MAX_GENERATIONS) (lt-leb _ _ lacks)
      ]

-- no tables suit more keys than there are slots
pub none-suits :
    (live ever : ℕ) → MAX_SLOTS < max live ever
    → exponent_for_churn live ever ≡ CHURN_GREATEST + 1
none-suits live ever many =
    first_passing-is (suits_churn live ever) 18 9 27 (omega arith) (omega arith)
    (λ within. absurd (omega arith)) (λ k after below. fails k below) where
      fails : (k : ℕ) → k < 27 → suits_churn live ever k ≡ false
      fails k below =
          let fewer : 2 ^ k ≤ 2 ^ 26 = pow_mono {j = 26} (omega arith) in
          elim (cases_lt (2 ^ k) (2 * live)) [
            | inl less ↦
                and_left (leb (2 * live) (2 ^ k))
                (has_room_for_churn live ever (2 ^ k) MAX_GENERATIONS) (lt-leb _ _ less)
            | inr more ↦
                let lacks : room_for_churn MAX_GENERATIONS (2 ^ k) live < slots_for ever =
                omega (arith, fewer, more, many) in
                and_right (leb (2 * live) (2 ^ k))
                (has_room_for_churn live ever (2 ^ k) MAX_GENERATIONS) (lt-leb _ _ lacks)
          ]

-- what a quotient that was rounded up says of the number of tables
pub record IsFewest (live ever size more : ℕ) : Type 0 where
  pub first : tables_for_churn live ever size ≡ 1 + more
  pub few : more ≤ 15
  pub room : slots_for ever ≤ room_for_churn (1 + more) size live

pub fewest-found :
    (live ever size more : ℕ) → live < size
    → slots_for ever ≤ room_for_churn MAX_GENERATIONS size live
    → slots_for ever - size ≤ more * (size - live)
    → more * (size - live) < slots_for ever - size + (size - live)
    → IsFewest live ever size more
fewest-found live ever size more some fits over under = record {
  first = first_passing-is (has_room_for_churn live ever size) 15 1 (1 + more) (omega arith)
      (omega (arith, few)) (λ _. le-leb _ _ room) (λ k after below. smaller k after below);
  few = few;
  room = room;
} where
  few : more ≤ 15
  few = elim (cases_lt more 16) [
    | inl less ↦ omega (arith, less)
    | inr many ↦
        let rows : 16 * (size - live) ≤ more * (size - live) =
        mul-le 16 (size - live) more (size - live) many (omega arith) in
        absurd (omega (arith, rows, under, fits, some))
  ]

  room : slots_for ever ≤ room_for_churn (1 + more) size live
  room =
      let counted : 1 + more - 1 ≡ more = omega arith in
      let rows : slots_for ever ≤ size + more * (size - live) = omega (arith, over) in
      rw counted rows

  smaller :
      (k : ℕ) → 1 ≤ k → k < 1 + more → has_room_for_churn live ever size k ≡ false
  smaller k after below =
      let row : (k - 1) * (size - live) + (size - live) ≤ more * (size - live) =
      row_fits (k - 1) (size - live) more (size - live) (omega arith) (omega arith) in
      let lacks : size + (k - 1) * (size - live) < slots_for ever = omega (arith, row, under) in
      lt-leb (slots_for ever) (size + (k - 1) * (size - live)) lacks

-- tables of one size are such as a shape may have
module _ (tables exponent : ℕ) (few : tables ≤ 16) (least : 9 ≤ exponent)
    (greatest : exponent ≤ 26) where
  pub alike-rises : IsNonDecreasing (replicate tables exponent)
  alike-rises i j d order within =
      let inside : j < tables = omega (arith, length-replicate tables exponent) in
      omega (
        arith,
        get_or-replicate tables i exponent d (omega arith),
        get_or-replicate tables j exponent d inside,
      )

  pub alike-slots : slots_in (replicate tables exponent) ≤ MAX_SLOTS
  alike-slots =
      let size : 2 ^ exponent ≤ 2 ^ 26 = pow_mono greatest in
      omega (
        arith,
        sum_by-replicate (λ e. 2 ^ e) tables exponent,
        mul-le tables (2 ^ exponent) 16 (2 ^ 26) few size,
      )

-- an exponent that isn't past the greatest, and seats that are accepted, make the plan
pub for_churn-accepted :
    (live ever seats : ℕ) → exponent_for_churn live ever ≤ CHURN_GREATEST
    → (1 ≤ seats) × (seats ≤ MAX_SEATS)
    → checked_for_churn live ever seats ≡ Ok (plan_for_churn live ever seats)
for_churn-accepted live ever seats within some =
    rw (
      le-leb (exponent_for_churn live ever) CHURN_GREATEST within,
      is_within-true 1 MAX_SEATS seats some,
    )

-- tables of one size, with another chunk, are that plan
pub tuned-alike :
    (live ever exponent tables seats stripes : ℕ) (made : Plan)
    → exponent_for_churn live ever ≡ exponent
    → tables_for_churn live ever (2 ^ exponent) ≡ tables → stripes ≡ min seats SHARED_STRIPES
    → made ≡ plan (replicate tables exponent) seats stripes
    → checked_chunk made 64 ≡ Ok (plan_for_churn live ever seats)
unfolding ones
tuned-alike live ever exponent tables seats stripes made at count shared is =
    rw (is, at, count, shared) refl
