-- A write that looks at its key's home slot first, in the table that its seat remembers.
use Rattle.std.proofs.Common.{◌≡◌, ◌⊎◌, ℕ, ◌+◌, ◌-◌, ◌<◌, ◌≤◌, [], Result, inl, subst, sym, arith}
use Rattle.std.proofs.lemmas.Nat.{pow_pos}
use Rattle.nb_core.specs.History.{key_of_call}
use Rattle.nb_core.specs.declared.calls.Call.{Call}
use Rattle.nb_core.specs.declared.calls.Reply.{Reply}
use Rattle.nb_table.proofs.Theorems.{steps_add_up}
use Rattle.nb_table.specs.Chains.{ChainOf, Extended, IsOwn, SeenBy, seen_by}
use Rattle.nb_map.proofs.Made.{made-within}
use Rattle.nb_map.proofs.Searched.{others-none, reached-up-to, ready-up-to, table-within}
use Rattle.nb_map.proofs.AtHome.{whole-bound}
use Rattle.nb_map.specs.Calling.{HasMade}
use Rattle.nb_map.specs.Progress.{IsAloneAtHome, IsKnownHome, IsLastSeen, Unlimited}
use Rattle.nb_map.specs.Steps.{home_steps}
use Rattle.nb_map.specs.Logs.{made_in}
use Rattle.nb_map.specs.Refusals.{IsJust}
use Rattle.nb_map.specs.declared.faults.PutFault.{PutFault}
use Rattle.std.specs.Prelude.{IfErr}
use Rattle.nb_map.specs.inside.Climbing.{IsAt, IsSpent, rung_at}
use Rattle.nb_map.specs.inside.Waiting.{HasBeenTold, HasLookedInVain}

-- any call may begin in any table up to the top
pub at-up-to :
    (chain : ChainOf) {seat : SeenBy} (g : ℕ) → IsOwn chain seat → g ≤ (seen_by chain.shape seat).top
    → (call : Call) → IsAt chain call seat (rung_at g)
at-up-to chain {seat} g own low call =
    let reached = reached-up-to chain seat own (key_of_call call) g low in
    record {
      own = own;
      table = table-within chain seat own g reached.installed;
      reached = reached;
      within = omega arith;
      start = inl (pow_pos _);
      others = others-none chain.shape (seen_by chain.shape seat) g (key_of_call call);
      known = ready-up-to chain seat own g low;
    }

-- so in the one that a load of the top word found
pub at-there :
    (chain : ChainOf) {start first : SeenBy} (top : ℕ) → IsOwn chain start
    → Extended chain.shape start first [] 1 → (seen_by chain.shape first).top ≡ top
    → (call : Call) → IsAt chain call first (rung_at top)
at-there chain top own load is =
    at-up-to chain top (steps_add_up.own own (steps_add_up.one load)) (omega (arith, is))

-- and in the one that its seat remembers
module _ (chain : ChainOf) {start : SeenBy} (known : ℕ) (own : IsOwn chain start)
    (is : known ≡ start.top) where
  pub at-known : (call : Call) → IsAt chain call start (rung_at known)
  at-known = at-up-to chain known own (omega (arith, own.known, is))

  -- a write with one try is told at the home slot there
  pub told-there :
      {call : Call} {after : SeenBy} (left : ℕ) (told : Result Reply PutFault)
      → HasMade chain.shape call start after (made_in call told) (home_steps + (1 - left))
      → IfErr told (IsJust chain.shape call start after Unlimited) → start.steps < after.steps
      → (IsAloneAtHome chain.shape known call start after
      → IsKnownHome chain.shape known call start → after.steps ≤ start.steps + 3)
      → (IsAloneAtHome chain.shape known call start after
      → IsLastSeen chain.shape known after → after.steps ≤ start.steps + 5)
      → HasBeenTold chain.shape call start after told
  told-there {call} {after} left told made refused looked three five =
      let p = chain.shape in
      let alone : IsAloneAtHome p start.top call start after
      → IsAloneAtHome p known call start after =
      subst (λ g. IsAloneAtHome p g call start after) (sym is) in
      record {
        made = made-within _ _
            (omega (
              arith,
              whole-bound p own.plan known (1 - left) 0 1 (at-known call).table (omega arith),
            ))
            made;
        refused = refused;
        looked = looked;
        short = record {
          three_steps = λ here way.
              three (alone here) (subst (λ g. IsKnownHome p g call start) (sym is) way);
          five_steps = λ here last.
              five (alone here) (subst (λ g. IsLastSeen p g after) (sym is) last);
        };
      }

  -- a write with one try has looked at the home slot there in vain
  pub in-vain :
      {call : Call} {after : SeenBy} (left : ℕ)
      → HasMade chain.shape call start after [] (home_steps + (1 - left))
      → IsSpent call start after 1 left → start.steps < after.steps
      → (IsAloneAtHome chain.shape known call start after
      → IsKnownHome chain.shape known call start ⊎ IsLastSeen chain.shape known after → ⊥)
      → HasLookedInVain chain call start after (1 - left)
  in-vain {call} {after} left made spent looked away =
      let p = chain.shape in
      record {
        own = own;
        passed = omega (arith, spent.lost);
        looked = looked;
        made = made;
        away = subst (λ g. IsAloneAtHome p g call start after
            → IsKnownHome p g call start ⊎ IsLastSeen p g after → ⊥) is away;
      }
