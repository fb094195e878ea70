-- What a seat must have seen before some steps.
use Rattle.std.specs.Prelude.{◌≡◌, ℕ, zero, suc, ◌<◌, ◌⊎◌}
use Rattle.nb_core.specs.Plans.{Plan, size_of}
use Rattle.nb_core.specs.Tables.{IsComplete, IsInstalled, Tables, IsPassed, IsPrimedOrFinished}
use Rattle.nb_core.specs.History.{HasValue}
use Rattle.nb_core.specs.declared.states.KeyState.TheVariants.{Claimed}

-- The key's slot in the table below holds this number, primed or finished. The first table has none
-- below it.
abbrev pub HasSource : Plan → Tables → ℕ → ℕ → ℕ → Type 0
HasSource p t zero k n = ⊥
HasSource p t (suc g) k n =
    (i : ℕ) × (i < size_of p g) × (t.key g i ≡ Claimed k) × IsPrimedOrFinished t g i n

-- the slot holds a number, primed or finished, and in the next table its key has a slot whose value
-- isn't null
pub record IsCopied (p : Plan) (t : Tables) (g i : ℕ) : Type 0 where
  pub key : ℕ
  pub number : ℕ
  pub claimed : t.key g i ≡ Claimed key
  pub held : IsPrimedOrFinished t g i number
  pub copied : HasValue p t (suc g) key

-- A search for the key may have come to this table: it is there, and in each table below it the key
-- is passed.
pub record IsReached (p : Plan) (t : Tables) (g k : ℕ) : Type 0 where
  pub installed : IsInstalled t g
  pub below : (f : ℕ) → f < g → IsPassed p t f k

-- The table is known to be complete: by its slots, each of which is finished, or by its count,
-- which is at its size (law `counted`).
abbrev pub IsKnownComplete : Plan → Tables → ℕ → Type 0
IsKnownComplete p t g = IsComplete p t g ⊎ (t.counted g ≡ size_of p g)
