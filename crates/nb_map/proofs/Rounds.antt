-- What the rounds of a write add up to that tries again where it was contended.
use Rattle.std.proofs.Common.{◌≡◌, ℕ, zero, suc, ◌+◌, ◌-◌, ◌*◌, ◌^◌, ◌≤◌, List, [], add-one, ap, arith, refl, take}
use Rattle.std.proofs.Math.Nat.{mul-le-mul_right}
use Rattle.std.proofs.lemmas.List.Sums.{sum_by_more, sum_by-take-le}
use Rattle.nb_core.specs.Plans.{IsPlan, Plan, generations_of, size_of, slots_in}
use Rattle.nb_core.specs.declared.calls.Call.{Call}
use Rattle.nb_core.specs.declared.calls.Reply.{Reply}
use Rattle.nb_core.specs.declared.shapes.TheConstants.{MAX_SLOTS}
use Rattle.nb_table.specs.Chains.{ChainOf, IsOwn, SeenBy}
use Rattle.nb_map.proofs.Bounds.{climb-bound}
use Rattle.nb_map.proofs.Made.{made-within}
use Rattle.nb_map.proofs.Searched.{made-then}
use Rattle.nb_map.proofs.Spent.{passed-sum}
use Rattle.nb_map.specs.Calling.{HasMade}
use Rattle.nb_map.specs.Progress.{Unlimited, passed_since}
use Rattle.nb_map.specs.Steps.{climb_steps, get_steps, lost_steps, slots_below}
use Rattle.nb_map.specs.inside.Climbing.{IsSpent}
use Rattle.nb_map.specs.inside.Waiting.{general_steps}

-- the slots below a table are those of the tables before it
slots-before :
    (p : Plan) (g : ℕ) → g ≤ generations_of p → slots_below p g ≡ slots_in (take g p.exponents)
slots-before p zero below = refl
slots-before p (suc g) below =
    omega (
      arith,
      ap (λ n. slots_in (take n p.exponents)) (add-one g),
      sum_by_more (λ e. 2 ^ e) p.exponents g 0 below,
      slots-before p g (omega (arith, below)),
    )

-- a chain has few slots
slots-few : (p : Plan) → IsPlan p → (g : ℕ) → g ≤ generations_of p → slots_below p g ≤ MAX_SLOTS
slots-few p plan g below =
    omega (arith, slots-before p g below, sum_by-take-le (λ e. 2 ^ e) p.exponents g, plan.slots)

-- and so a call comes to its end in few steps, besides the exchanges that it loses
climbed-few : (p : Plan) → IsPlan p → climb_steps p ≤ get_steps p
climbed-few p plan = omega (arith, climb-bound p plan 0 plan.tables.0)

-- one more contended round: others won more exchanges in it than the tables have slots
round-bound :
    (p : Plan) → IsPlan p → (passed passed' all lost : ℕ) → 2 ^ 32 - 1 ≤ passed'
    → passed + passed' ≤ all → lost ≤ passed'
    → lost_steps p passed + (climb_steps p + lost) ≤ lost_steps p all
round-bound p plan passed passed' all lost contended both fewer =
    let n = size_of p (generations_of p - 1) in
    let few = slots-few p plan (generations_of p) (omega arith) in
    let t = slots_below p (generations_of p) in
    let less : 2 * (t + generations_of p) ≤ passed' =
    omega (arith, few, contended, plan.tables.1) in
    fits t (generations_of p) n passed passed' all (climb_steps p) lost (climbed-few p plan)
    (mul-le-mul_right (n + 8) less) (mul-le-mul_right (n + 8) both) fewer
  where
    fits : (t tables n passed passed' all climbed lost : ℕ)
        → climbed ≤ 8 * (t + tables) * (n + 8)
        → 2 * (t + tables) * (n + 8) ≤ passed' * (n + 8)
        → (passed + passed') * (n + 8) ≤ all * (n + 8) → lost ≤ passed'
        → 8 * passed * (n + 8) + (climbed + lost) ≤ 8 * all * (n + 8)
    fits t tables n passed passed' all climbed lost few less both fewer =
        omega (arith, few, less, both, fewer)

-- the last round
last-bound :
    (p : Plan) → (passed passed' all climbed lost : ℕ) → passed + passed' ≤ all → lost ≤ passed'
    → lost_steps p passed + (climbed + lost) ≤ climbed + lost_steps p all
last-bound p passed passed' all climbed lost both fewer =
    let n = size_of p (generations_of p - 1) in
    fits n passed passed' all climbed lost (mul-le-mul_right (n + 8) both) fewer
  where
    fits : (n passed passed' all climbed lost : ℕ)
        → (passed + passed') * (n + 8) ≤ all * (n + 8) → lost ≤ passed'
        → 8 * passed * (n + 8) + (climbed + lost) ≤ climbed + 8 * all * (n + 8)
    fits n passed passed' all climbed lost both fewer = omega (arith, both, fewer)

-- The seat has loaded the top word and made some contended rounds, and then another one.
module _ (chain : ChainOf) {call : Call} {start now after : SeenBy} {left : ℕ}
    {calls : List (Call × Reply)} (own : IsOwn chain start)
    (rounds : HasMade chain.shape call start now []
    (1 + lost_steps chain.shape (passed_since call start now)))
    (round : HasMade chain.shape call now after calls
    (climb_steps chain.shape + (2 ^ 32 - 1 - left)))
    (spent : IsSpent call now after (2 ^ 32 - 1) left) where
  -- it was contended, too
  pub rounds-more :
      2 ^ 32 - 1 ≤ passed_since call now after
      → HasMade chain.shape call start after calls
      (1 + lost_steps chain.shape (passed_since call start after))
  rounds-more contended =
      made-within _ _
      (omega (
        arith,
        round-bound chain.shape own.plan (passed_since call start now) (passed_since call now after)
            (passed_since call start after) (2 ^ 32 - 1 - left) contended
            (omega (arith, passed-sum call rounds.grown round.grown)) (omega (arith, spent.lost)),
      ))
      (made-then own rounds round)

  -- or it was the last one
  pub rounds-end :
      HasMade chain.shape call start after calls
      (general_steps chain.shape Unlimited (passed_since call start after))
  rounds-end =
      made-within _ _
      (omega (
        arith,
        last-bound chain.shape (passed_since call start now) (passed_since call now after)
            (passed_since call start after) (climb_steps chain.shape) (2 ^ 32 - 1 - left)
            (omega (arith, passed-sum call rounds.grown round.grown)) (omega (arith, spent.lost)),
      ))
      (made-then own rounds round)
