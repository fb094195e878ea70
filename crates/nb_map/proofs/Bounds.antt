-- How many steps calls make.
use Rattle.std.proofs.Common.{◌≡◌, ℕ, zero, suc, ◌+◌, ◌-◌, ◌*◌, ◌^◌, ◌≤◌, ◌<◌, ◌⊎◌, slice_index, sym, subst, inl, inr, arith}
use Rattle.std.proofs.Math.Nat.{le_refl, le_trans, mul-le-mul_left, mul-le-mul_right}
use Rattle.std.proofs.lemmas.List.{get_or_past}
use Rattle.std.proofs.lemmas.Nat.{pow_pos}
use Rattle.nb_core.specs.Plans.{IsPlan, Plan, generations_of, size_of}
use Rattle.nb_copy.specs.Handing.{table_steps}
use Rattle.nb_map.specs.Steps.{climb_steps, get_steps, pass_steps, rung_steps, rungs_below, slots_below, steps_below}
use Rattle.nb_core.proofs.Theorems.{sizes_never_fall}

-- no table is larger than the last one
size-most :
    (p : Plan) → IsPlan p → (n g : ℕ) → g + n + 1 ≡ generations_of p
    → size_of p g ≤ size_of p (generations_of p - 1)
size-most p plan zero g is = let last : g ≡ generations_of p - 1 = omega (arith, is) in
    subst (λ f. size_of p g ≤ size_of p f) last (le_refl (size_of p g))
size-most p plan (suc n) g is =
    le_trans (sizes_never_fall p plan g (omega (arith, is)))
    (size-most p plan n (suc g) (omega (arith, is)))

-- nor is the table above one of the plan's, where there is one
pub next-size :
    (p : Plan) → IsPlan p → (g : ℕ) → g < generations_of p
    → size_of p (suc g) ≤ size_of p (generations_of p - 1)
next-size p plan g table = elim (more-or-last (suc g) (generations_of p)) [
  | inl more ↦ size-most p plan (generations_of p - suc (suc g)) (suc g) (omega (arith, more))
  | inr last ↦
      let none : slice_index p.exponents (suc g) ≡ 0 = get_or_past p.exponents (suc g) 0 last in
      subst (λ e. 2 ^ e ≤ size_of p (generations_of p - 1)) (sym none)
      (pow_pos (slice_index p.exponents (generations_of p - 1)))
]
  where
    more-or-last : (a b : ℕ) → (a < b) ⊎ (b ≤ a)
    more-or-last a b = grind arith

-- a sum over more tables is more
pub slots-more : (p : Plan) (m g : ℕ) → g ≤ m → slots_below p g ≤ slots_below p m
slots-more p zero g below = let none : g ≡ 0 = omega (arith, below) in
    subst (λ f. slots_below p f ≤ 0) (sym none) (le_refl 0)
slots-more p (suc m) g below = elim (less-or-same g m below) [
  | inl less ↦ let rest = slots-more p m g less in omega (arith, rest)
  | inr same ↦ subst (λ f. slots_below p f ≤ slots_below p (suc m)) (sym same)
      (le_refl (slots_below p (suc m)))
]
  where
    less-or-same : (a b : ℕ) → a ≤ suc b → (a ≤ b) ⊎ (a ≡ suc b)
    less-or-same a b below = grind (arith, below)

-- the most steps to complete all tables below one
abbrev completed_below : Plan → ℕ → ℕ
completed_below p zero = 0
completed_below p (suc g) = table_steps p g + completed_below p g

completed-few :
    (p : Plan) → IsPlan p → (g : ℕ) → g ≤ generations_of p
    → completed_below p g ≤ slots_below p g * (4 * size_of p (generations_of p - 1) + 15) + g
completed-few p plan zero below = omega arith
completed-few p plan (suc g) below =
    let rest = completed-few p plan g (omega (arith, below)) in
    let next = next-size p plan g below in
    let here = mul-le-mul_left (size_of p g) next in
    one (size_of p g) (size_of p (suc g)) (size_of p (generations_of p - 1)) (slots_below p g) g
    (completed_below p g) rest here
  where
    one : (size above n s g done : ℕ) → done ≤ s * (4 * n + 15) + g → size * above ≤ size * n
        → size * (2 * (2 * above + 6) + 3) + 1 + done ≤ (size + s) * (4 * n + 15) + suc g
    one size above n s g done rest here = omega (arith, rest, here)

-- the table below each table is completed once more at most
rungs-few :
    (p : Plan) → IsPlan p → (g : ℕ) → g ≤ generations_of p
    → rungs_below p g + steps_below p g
    ≤ 3 * slots_below p g + 2 * completed_below p g
    + g * (2 * size_of p (generations_of p - 1) + 15)
rungs-few p plan zero below = omega arith
rungs-few p plan (suc g) below =
    let rest = rungs-few p plan g (omega (arith, below)) in
    let next = next-size p plan g below in
    one (size_of p g) (size_of p (suc g)) (size_of p (generations_of p - 1)) (slots_below p g) g
    (completed_below p g) (table_steps p g) (steps_below p g)
    (rungs_below p g) rest next
  where
    one : (size above n s g done here under written : ℕ)
        → written + under ≤ 3 * s + 2 * done + g * (2 * n + 15) → above ≤ n
        → 3 * size + under + 4 + here + 2 + (2 * above + 6 + 2) + written + here
        ≤ 3 * (size + s) + 2 * (here + done) + suc g * (2 * n + 15)
    one size above n s g done here under written rest next = omega (arith, rest, next)

-- more tables are more steps
rungs-most : (p : Plan) (m g : ℕ) → g ≤ m → rungs_below p g ≤ rungs_below p m
rungs-most p zero g below = let none : g ≡ 0 = omega (arith, below) in
    subst (λ f. rungs_below p f ≤ 0) (sym none) (le_refl 0)
rungs-most p (suc m) g below = elim (less-or-same g m below) [
  | inl less ↦ let rest = rungs-most p m g less in omega (arith, rest)
  | inr same ↦ subst (λ f. rungs_below p f ≤ rungs_below p (suc m)) (sym same)
      (le_refl (rungs_below p (suc m)))
]
  where
    less-or-same : (a b : ℕ) → a ≤ suc b → (a ≤ b) ⊎ (a ≡ suc b)
    less-or-same a b below = grind (arith, below)

-- a call comes to each table once at most
pub climbed-most :
    (p : Plan) (g : ℕ) → g < generations_of p → rung_steps p g + rungs_below p g ≤ climb_steps p
climbed-most p g table = rungs-most p (generations_of p) (suc g) table

-- so there is room for what comes before, which is a few steps, glances along a path and the end of
-- a copy
pub climb-bound :
    (p : Plan) → IsPlan p → (g : ℕ) → g < generations_of p
    → 8 + 2 * size_of p g + pass_steps p g + climb_steps p ≤ get_steps p
climb-bound p plan g table =
    let tables = generations_of p in
    fits (climb_steps p) (steps_below p tables) (slots_below p tables) (completed_below p tables)
    tables (size_of p (tables - 1)) (size_of p g) (size_of p (suc g))
    (rungs-few p plan tables (le_refl tables)) (completed-few p plan tables (le_refl tables))
    (size-most p plan (tables - 1 - g) g (omega (arith, table))) (next-size p plan g table)
    plan.tables.0
  where
    fits : (climbed under t done tables n here above : ℕ)
        → climbed + under ≤ 3 * t + 2 * done + tables * (2 * n + 15)
        → done ≤ t * (4 * n + 15) + tables → here ≤ n → above ≤ n → 1 ≤ tables
        → 8 + 2 * here + (2 * above + 6 + 2) + climbed ≤ 8 * (t + tables) * (n + 8)
    fits climbed under t done tables n here above a b c d e =
        omega (arith, a, b, c, d, mul-le-mul_right (6 * n + 47) e)
