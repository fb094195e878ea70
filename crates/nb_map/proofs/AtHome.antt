-- What a write does at its key's home slot, and after it.
use Rattle.std.proofs.Common.{ℕ, suc, ◌+◌, ◌-◌, ◌*◌, ◌<◌, ◌≤◌, List, arith}
use Rattle.std.proofs.Math.Nat.{mul-le-mul_right}
use Rattle.nb_core.specs.Plans.{IsPlan, Plan, generations_of, size_of}
use Rattle.nb_core.specs.declared.events.Event.{Event}
use Rattle.nb_table.proofs.Theorems.{steps_add_up}
use Rattle.nb_table.specs.Chains.{ChainOf, Grown, IsOwn, SeenBy}
use Rattle.nb_map.proofs.Bounds.{climb-bound}
use Rattle.nb_map.specs.Progress.{IsLastSeen}
use Rattle.nb_map.specs.Steps.{climb_steps, home_steps, lost_steps, put_steps, slots_below}

-- of a table above, who doesn't know it in the end didn't know it before
pub last-before :
    {chain : ChainOf} {then after : SeenBy} {own : List Event} {count : ℕ} (g : ℕ)
    → IsOwn chain then → Grown chain.shape then after own count → IsLastSeen chain.shape g after
    → IsLastSeen chain.shape g then
last-before g own a last = record {
  none_above = λ above. last.none_above ((steps_add_up.stays own a).installed (suc g) above);
}

-- ---- bounds of steps

-- a write of more tries has a greater bound
pub put-rises : (p : Plan) (a b : ℕ) → a ≤ b → put_steps p a ≤ put_steps p b
put-rises p a b less =
    mul-le-mul_right (size_of p (generations_of p - 1) + 8)
    (more (slots_below p (generations_of p)) (generations_of p) a b less)
  where
    more : (s g x y : ℕ) → x ≤ y → 8 * (s + x + g) ≤ 8 * (s + y + g)
    more s g x y below = omega (arith, below)

-- a lost exchange is one step
pub lost-few : (p : Plan) (lost most : ℕ) → lost ≤ most → lost ≤ lost_steps p most
lost-few p lost most less = fits (size_of p (generations_of p - 1)) less
  where
    fits : (n : ℕ) → lost ≤ most → lost ≤ 8 * most * (n + 8)
    fits n less = omega (arith, less)

-- what a write does at its key's home slot, the load of the top word, and what it does from there
-- on
pub whole-bound :
    (p : Plan) → IsPlan p → (g lost more tries : ℕ) → g < generations_of p → lost + more ≤ tries
    → home_steps + lost + (1 + (climb_steps p + lost_steps p more)) ≤ put_steps p tries
whole-bound p plan g lost more tries table few =
    let n = size_of p (generations_of p - 1) in
    fits (slots_below p (generations_of p)) (generations_of p) n (climb_steps p) lost more tries
    (omega (arith, climb-bound p plan g table)) (mul-le-mul_right (n + 8) few)
  where
    fits : (t tables n climbed lost more tries : ℕ) → 8 + climbed ≤ 8 * (t + tables) * (n + 8)
        → (lost + more) * (n + 8) ≤ tries * (n + 8)
        → 5 + lost + (1 + (climbed + 8 * more * (n + 8))) ≤ 8 * (t + tries + tables) * (n + 8)
    fits t tables n climbed lost more tries climb few = omega (arith, climb, few)
