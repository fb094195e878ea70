-- How far a closed chain's map was put into a plain one.
use Rattle.std.specs.Prelude.{◌≡◌, ℕ, ◌<◌, ◌≤◌, ◌⊎◌, None}
use Rattle.std.specs.FinMap as map
use Rattle.nb_core.specs.Log.{Numbers}
use Rattle.nb_core.specs.History.{map_of}
use Rattle.nb_core.specs.Tables.{IsSlot}
use Rattle.nb_core.specs.declared.states.KeyState.TheVariants.{Claimed}
use Rattle.nb_table.specs.Left.{ClosedOf, tables_left}

-- at the key it has what the closed chain's map has
abbrev pub HasRight : ClosedOf → Numbers → ℕ → Type 0
HasRight closed found k = map.get found k ≡ map.get (map_of closed.history) k

-- At each key it has what the closed chain's map has, or nothing yet; and the keys of the tables
-- from the top word to table g are done, and those of the first i slots of table g.
pub record IsListing (closed : ClosedOf) (found : Numbers) (g i : ℕ) : Type 0 where
  pub so_far : (k : ℕ) → (map.get found k ≡ None) ⊎ HasRight closed found k
  pub tables :
      (f j k : ℕ) → (tables_left closed).top ≤ f → f < g → IsSlot closed.shape f j
      → (tables_left closed).key f j ≡ Claimed k → HasRight closed found k
  pub slots : (j k : ℕ) → j < i → (tables_left closed).key g j ≡ Claimed k → HasRight closed found k
