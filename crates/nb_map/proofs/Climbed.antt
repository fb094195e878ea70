-- What a call comes to, table after table.
use Rattle.std.proofs.Common.{ℕ, ◌+◌, ◌-◌, ◌≤◌, List, [], None, add-one, sym, subst, arith}
use Rattle.nb_core.specs.Plans.{Plan}
use Rattle.nb_core.specs.declared.calls.Call.{Call}
use Rattle.nb_core.specs.declared.calls.Reply.{Reply}
use Rattle.nb_core.specs.declared.events.Event.{Event}
use Rattle.nb_table.specs.Chains.{ChainOf, Grown, IsOwn, SeenBy}
use Rattle.nb_map.specs.Calling.{HasMade}
use Rattle.nb_map.specs.Steps.{climb_steps, rung_steps, rungs_below, search_steps, slot_visit_steps}
use Rattle.nb_map.specs.declared.steps.rung.Below.{Below}
use Rattle.nb_map.specs.declared.steps.rung.Rung.{Rung}
use Rattle.nb_map.specs.declared.steps.rung.Visit.{Visit}
use Rattle.nb_map.specs.declared.steps.rung.Visit.TheVariants.{Told, Refused, Above}
use Rattle.nb_map.specs.inside.Climbing.{GoesAbove, IsAt, IsRefused, IsSpent, IsVisit, IsVisitHere, made_by}
use Rattle.nb_map.proofs.Bounds.{climbed-most}
use Rattle.nb_map.proofs.Made.{made-none, made-within}
use Rattle.nb_map.proofs.Rungs.{at-above, at-stays}
use Rattle.nb_map.proofs.Searched.{made-then}
use Rattle.nb_map.proofs.Tried.{reply-fits}
use Rattle.nb_map.proofs.Spent.{no-read, refused-longer, spent-more, spent-none}

-- ---- in one table

-- the steps at the key's slot come after those that found it
pub visited :
    {chain : ChainOf} {call : Call} {start then after : SeenBy} (g lost : ℕ) (visit : Visit)
    → IsOwn chain start
    → HasMade chain.shape call start then [] (search_steps chain.shape g)
    → HasMade chain.shape call then after (made_by call visit)
    (slot_visit_steps chain.shape g visit + lost)
    → HasMade chain.shape call start after (made_by call visit) (rung_steps chain.shape g + lost)
visited g lost (Told reply) own found made = made-within _ _ (omega arith) (made-then own found made)
visited g lost (Refused fault) own found made = made-within _ _ (omega arith) (made-then own found made)
visited g lost (Above below) own found made = made-within _ _ (omega arith) (made-then own found made)

-- and what the call came to then, it has come to from its beginning on
pub visit-longer :
    (p : Plan) (call : Call) {start mid after : SeenBy} {own own' : List Event} {count count' : ℕ}
    (g tries left : ℕ) → Grown p start mid own count → Grown p mid after own' count'
    → (visit : Visit) → IsVisit p call mid after g tries left visit
    → IsVisit p call start after g tries left visit
visit-longer p call g tries left a b (Told reply) is = is
visit-longer p call {start} {mid} g tries left a b (Refused fault) is =
    refused-longer a b (spent-none call start mid tries) fault is
visit-longer p call g tries left a b (Above below) is = is

-- without a slot, it has lost no try
pub visit-here :
    (p : Plan) (call : Call) (start after : SeenBy) (g tries : ℕ) → 1 ≤ tries → (visit : Visit)
    → IsVisitHere p call after g visit → IsVisit p call start after g tries tries visit
visit-here p call start after g tries some (Told reply) is = reply-fits call None reply is.1
visit-here p call start after g tries some (Refused why) is =
    subst (IsRefused p call start after tries) (sym is.0) (is.1, no-read call None is.1.0)
visit-here p call start after g tries some (Above below) is = (is, some)

-- ---- from table to table

-- A call that began with so many tries has come to a rung, with so many left.
pub record HasClimbedTo (chain : ChainOf) (call : Call) (start now : SeenBy) (rung : Rung)
    (tries left : ℕ) : Type 0 where
  pub made : HasMade chain.shape call start now [] (rungs_below chain.shape rung.g
      + (tries - left))
  pub at : IsAt chain call now rung
  pub some : 1 ≤ left
  pub spent : IsSpent call start now tries left

-- it begins
pub climbed-none :
    (chain : ChainOf) (call : Call) (start : SeenBy) (rung : Rung) (tries : ℕ)
    → IsAt chain call start rung → 1 ≤ tries
    → HasClimbedTo chain call start start rung tries tries
climbed-none chain call start rung tries at some = record {
  made = made-within 0 _ (omega arith) (made-none chain call start at.own);
  at = at;
  some = some;
  spent = spent-none call start start tries;
}

module _ (chain : ChainOf) {call : Call} {start now after : SeenBy} {rung : Rung}
    {tries left left' : ℕ} (own : IsOwn chain start)
    (climbed : HasClimbedTo chain call start now rung tries left)
    (spent : IsSpent call now after left left') where
  -- it goes on in the next table
  pub climbed-above :
      (below : Below) → HasMade chain.shape call now after []
      (rung_steps chain.shape rung.g + (left - left'))
      → GoesAbove chain.shape call after rung.g below → 1 ≤ left'
      → HasClimbedTo chain call start after (record { g = rung.g + 1; from = 0; below = below })
      tries left'
  climbed-above below made on some = record {
    made =
        subst (λ g. HasMade chain.shape call start after [] (rungs_below chain.shape g
        + (tries - left'))) (sym (add-one rung.g))
        (made-within _ _ (omega (arith, climbed.spent.fewer, spent.fewer))
        (made-then own climbed.made made));
    at = at-above chain below (at-stays chain climbed.at made) on;
    some = some;
    spent = spent-more climbed.made.grown made.grown climbed.spent spent;
  }

  -- it ends here
  pub climbed-end :
      {calls : List (Call × Reply)} → HasMade chain.shape call now after calls
      (rung_steps chain.shape rung.g + (left - left'))
      → HasMade chain.shape call start after calls (climb_steps chain.shape + (tries - left'))
  climbed-end made =
      made-within _ _
      (omega (
        arith,
        climbed-most chain.shape rung.g climbed.at.table,
        climbed.spent.fewer,
        spent.fewer,
      ))
      (made-then own climbed.made made)
