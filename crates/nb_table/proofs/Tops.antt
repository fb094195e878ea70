-- The top word rises, and a seat remembers what it was.
use Rattle.std.proofs.Common.{◌≡◌, ℕ, ◌≤◌, List, ◌++◌, sym, subst, arith}
use Rattle.nb_core.specs.History.{IsLegal}
use Rattle.nb_core.specs.Plans.{IsPlan, Plan}
use Rattle.nb_core.specs.Tables.{tables_at}
use Rattle.nb_core.specs.declared.events.Event.{Event}
use Rattle.nb_core.proofs.Theorems.{linked, seen_lasts}
use Rattle.nb_table.specs.Chains.{Extended, KnowsTop, Remembers, SeenBy, seen_by}
use Rattle.nb_table.specs.Inside.{remembering}

-- the top word is the number of a table
pub top-few : (p : Plan) → IsPlan p → (h : List Event) → IsLegal p h → (tables_at p h).top ≤ 16
top-few p plan h legal =
    let links = linked p plan h legal in
    omega (arith, links.within (tables_at p h).top links.top, plan.tables.1)

-- and never falls
top-rises :
    (p : Plan) → IsPlan p → (seen later after : List Event) → after ≡ later ++ seen
    → IsLegal p after → (tables_at p seen).top ≤ (tables_at p after).top
top-rises p plan seen later after is legal =
    subst (λ h. (tables_at p seen).top ≤ (tables_at p h).top) (sym is)
    ((seen_lasts p plan later seen (subst (IsLegal p) is legal)).top)

-- a seat that has seen more may remember the same
pub grown-remembers :
    (p : Plan) (before after : SeenBy) (later : List Event) → after.top ≡ before.top
    → after.seen ≡ later ++ before.seen → IsLegal p after.seen → Remembers p before after
grown-remembers p before after later same is legal = record {
  rises = omega (arith, same);
  known = λ plan known.
      omega (arith, same, known, top-rises p plan before.seen later after.seen is legal);
}

-- or the top of what it has seen
pub top-remembers :
    (p : Plan) → IsPlan p → (before after : SeenBy) (later : List Event)
    → before.top ≤ (seen_by p before).top → after.seen ≡ later ++ before.seen
    → IsLegal p after.seen → KnowsTop p after → Remembers p before after
top-remembers p plan before after later known is legal top = record {
  rises = omega (arith, known, top, top-rises p plan before.seen later after.seen is legal);
  known = λ _ _. omega (arith, top);
}

-- so after a step it may remember that
pub now-remembers :
    (p : Plan) → IsPlan p → {before after : SeenBy} {own : List Event} {count : ℕ} (top : ℕ)
    → before.top ≤ (seen_by p before).top → top ≡ (seen_by p after).top
    → Extended p before after own count → Extended p before (remembering top after) own count
now-remembers p plan {before} {after} {own} {count} top known is step = record {
  chain = step.chain;
  number = step.number;
  others = step.others;
  seen = step.seen;
  not_own = step.not_own;
  mine = step.mine;
  legal = step.legal;
  steps = step.steps;
  remembers = record {
    rises = omega (arith, is, step.remembers.rises, step.remembers.known plan known);
    known = λ _ _. omega (arith, is);
  };
}
