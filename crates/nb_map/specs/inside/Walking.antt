-- What a walk does in one table.
use Rattle.std.specs.Prelude.{ℕ, ◌⊎◌, ◌<◌, ◌≤◌, true, false, Bool, ◌≡◌, Option, Some, None, List, ◌++◌, All}
use Rattle.nb_core.specs.Meaning.{place_of}
use Rattle.nb_core.specs.Plans.{Plan, size_of}
use Rattle.nb_core.specs.Tables.{AreOthers, Tables, HasSlot}
use Rattle.nb_core.specs.declared.calls.Call.TheVariants.{Get}
use Rattle.nb_core.specs.declared.calls.Call.{Call}
use Rattle.nb_core.specs.declared.calls.Reply.{Reply}
use Rattle.nb_table.specs.Chains.{SeenBy, seen_by}
use Rattle.nb_table.specs.Conditions.{IsReached}
use Rattle.nb_map.specs.Calling.{HasMade}
use Rattle.nb_map.specs.Walks.{HasPassed, hit, IsMiss}
use Rattle.nb_map.specs.declared.steps.walk.Place.{Place}
use Rattle.nb_map.specs.inside.Reading.{IsClosedTo}

-- the key has no slot in the table and is passed there: its path is closed behind slots of other
-- keys, or theirs as a whole
abbrev pub IsAway : Plan → Tables → (g k : ℕ) → Type 0
IsAway p t g k = IsClosedTo p t g k ⊎ AreOthers p t g k (size_of p g)

-- whether the key has a slot in a table from the walk's first one on, but before table g; if not,
-- it is away from all these
abbrev pub IsEarlier : Plan → Tables → (first g k : ℕ) → Bool → Type 0
IsEarlier p t first g k true = (f : ℕ) × (first ≤ f) × (f < g) × HasSlot p t f k
IsEarlier p t first g k false = (f : ℕ) → first ≤ f → f < g → IsAway p t f k

-- the slot is the first place of this key from the walk's first table on, and a search for the key
-- may have come there; or it is the first place of none
abbrev pub IsFirstOf : Plan → SeenBy → (first g i : ℕ) → Option ℕ → Type 0
IsFirstOf p seat first g i None = (k : ℕ) → place_of p seat.seen first k ≡ Some (g, i) → ⊥
IsFirstOf p seat first g i (Some k) =
    (place_of p seat.seen first k ≡ Some (g, i)) × IsReached p (seen_by p seat) g k

-- A seat's steps took a walk from one place to another: with reads alone, at last the one of the
-- pair that is shown, in at most so many steps.
pub record HasGone (p : Plan) (before after : SeenBy) (first : ℕ) (from to : Place)
    (shown : Option (ℕ × ℕ)) (most : ℕ) : Type 0 where
  pub misses : List (Call × Reply)
  pub missed : All IsMiss misses
  pub made : (k : ℕ) → HasMade p (Get k) before after (hit shown ++ misses) most
  pub passed : HasPassed p before after first from to shown
