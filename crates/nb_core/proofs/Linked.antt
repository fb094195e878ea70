-- Which tables are there, and where on the paths of keys their slots lie.
use Rattle.std.proofs.Common.{ℕ, ◌-◌, ◌<◌, zero, suc, inl, inr, arith}
use Rattle.nb_core.specs.Plans.{Plan, IsPlan, generations_of}
use Rattle.nb_core.specs.Tables.{HasSlot, IsComplete, IsInstalled, Tables, path_slot, tables_at, AtSlot, IsPassed, UpToDead, Whole}
use Rattle.nb_core.specs.Laws.{ClaimedOnPath, PassedAbove, TablesAreLinked, WholeCrowded}
use Rattle.nb_core.proofs.Following.{top_complete}
use Rattle.nb_core.proofs.Keeping.{sound}
use Rattle.nb_core.proofs.Room.{crowded-complete_below, others-whole}
use Rattle.nb_core.proofs.Sound.{IsSound, complete-growing, finished-growing, installed-below, next-within, path_slot-is_slot}

module _ (p : Plan) (t : Tables) (plan : IsPlan p) (s : IsSound p t) where
  -- no more tables are there than the plan has
  installed-within : (g : ℕ) → IsInstalled t g → g < generations_of p
  installed-within zero installed = omega (arith, plan.tables.0)
  installed-within (suc g) installed = next-within p t s g installed

  -- above complete tables there is a next one
  installed-above : (n : ℕ) → ((g : ℕ) → g < n → (g < generations_of p) × IsComplete p t g)
      → IsInstalled t n
  installed-above zero complete = tt
  installed-above (suc g) complete = let last = complete g (omega arith) in
      complete-growing p t plan s g last.0 last.1

  -- where a key has a slot, and is passed in the next table, the table is complete
  passed-complete_below : (g k : ℕ) → suc g < generations_of p → HasSlot p t g k
      → IsPassed p t (suc g) k → IsComplete p t g
  passed-complete_below g k within has (AtSlot i below is final) =
      (s.ready g (finished-growing p t s (suc g) i (within, below) (inr final))).1
  passed-complete_below g k within has (UpToDead d below others dead) =
      (s.ready g (s.dead (suc g) (path_slot p (suc g) k d)
      (path_slot-is_slot p plan (suc g) k d within) dead)).1
  passed-complete_below g k within has (Whole others) =
      crowded-complete_below p t plan s g k within has others

pub linked : TablesAreLinked
linked p plan h legal =
    let t = tables_at p h in
    let s = sound p h plan legal in
    record {
      next = λ g. elim (s.next_is g) [ inl none ↦ inl none | inr one ↦ inr one.0 ];
      within = installed-within p t plan s;
      before = λ g. installed-below p t s (suc g) g (omega arith);
      claimed = λ g i k slot is. (s.claimed g i k slot is).installed;
      dead = s.dead;
      primed = s.growing;
      complete = complete-growing p t plan s;
      top = installed-above p t plan s t.top (top_complete p plan h legal);
    }

pub on_path : ClaimedOnPath
on_path p plan h legal g i k slot is = ((sound p h plan legal).claimed g i k slot is).reached

pub whole_crowded : WholeCrowded
whole_crowded p plan h legal k = others-whole p (tables_at p h) (generations_of p - 1) k

pub passed_above : PassedAbove
passed_above p plan h legal = passed-complete_below p (tables_at p h) plan (sound p h plan legal)
