-- How many slots a map has for its keys.
use Rattle.std.proofs.Common.{◌≡◌, ◌-◌, ◌^◌, ◌<◌, ◌≤◌, ◌⊎◌, ℕ, Bool, true, false, if◌then◌else◌, ap, inl, inr, arith}
use Rattle.std.specs.Prelude.{Err, Ok, Result, max, min, nat_le, not}
use Rattle.std.proofs.Math.Pow.{pow_mono}
use Rattle.std.proofs.lemmas.Bool.{cases_lt}
use Rattle.nb_core.specs.Plans.{HasRoomFor, Plan, checked_for_keys, generations_of, is_within, plan_for_keys}
use Rattle.nb_core.specs.declared.shapes.ShapeFault.TheVariants as fault
use Rattle.nb_core.specs.declared.shapes.ShapeFault.{ShapeFault}
use Rattle.std.proofs.Common.{get_or}
use Rattle.nb_core.specs.declared.shapes.TheConstants.{MAX_SEATS, MOST_KEYS}
use Rattle.nb_lasting.specs.Lasting.{HasSlots}

-- a table with nearly as many slots as the greatest one is the greatest
greatest : (e : ℕ) → 268435455 ≤ 2 ^ e → 2 ^ 28 ≤ 2 ^ e
greatest e many = of (cases_lt e 28)
  where
    of : (e < 28) ⊎ (28 ≤ e) → 2 ^ 28 ≤ 2 ^ e
    of (inl less) =
        let few : 2 ^ e ≤ 2 ^ 27 = pow_mono {j = 27} (omega (arith, less)) in
        absurd (omega (arith, few, many))
    of (inr more) = pow_mono more

-- and for fewer it has slots, too
pub slots_fewer : (p : Plan) (few keys : ℕ) → few ≤ keys → HasSlots keys p → HasSlots few p
slots_fewer p few keys fewer (inl more) = inl (omega (arith, fewer, more))
slots_fewer p few keys fewer (inr great) = inr great

-- a shape that was made for so many keys, or for as many as there may be, has the slots
pub has-slots :
    (p : Plan) (keys most : ℕ) → most ≡ min (max keys 20) MOST_KEYS → HasRoomFor p most
    → HasSlots keys p
has-slots p keys most is room = of (cases_lt MOST_KEYS (max keys 20))
  where
    of : (MOST_KEYS < max keys 20) ⊎ (max keys 20 ≤ MOST_KEYS) → HasSlots keys p
    of (inl many) =
        let greatest-keys : most ≡ MOST_KEYS = omega (arith, many, is) in
        inr (greatest (get_or p.exponents (generations_of p - 1) 0)
        (omega (arith, room, greatest-keys)))
    of (inr few) =
        let enough : most ≡ max keys 20 = omega (arith, few, is) in
        inl (omega (arith, room, enough))

-- the plan that was asked for is made, or is the one that was there
abbrev plan_in : Result Plan ShapeFault → Plan → Plan
plan_in (Ok p) was = p
plan_in (Err fault) was = was

-- a shape that was made is that for so many keys
pub made-for :
    (p : Plan) (most seats : ℕ) → ◌≡◌ {A = Result Plan ShapeFault} (Ok p)
    (checked_for_keys most seats)
    → p ≡ plan_for_keys most seats
made-for p most seats is = by (nat_le most MOST_KEYS) (is_within 1 MAX_SEATS seats) is
  where
    by : (a b : Bool)
        → ◌≡◌ {A = Result Plan ShapeFault} (Ok p)
        (if not a then Err fault.Keys else if not b then Err fault.Seats
        else Ok (plan_for_keys most seats))
        → p ≡ plan_for_keys most seats
    by true true made = ap (λ r. plan_in r p) made
    by true false made = absurd cc
    by false b made = absurd cc
