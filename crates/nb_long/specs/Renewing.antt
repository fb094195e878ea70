-- A typed map is made anew over its store: what its handle knows then, and what a refused renewal
-- leaves.
use Rattle.std.specs.Prelude.{◌≡◌, ◌⊎◌}
use Rattle.nb_core.specs.Plans.{Plan}
use Rattle.nb_map.specs.Ending.{EndedOf, EndedWith, map_left}
use Rattle.nb_map.specs.Entries.{HaveOnlyRead}
use Rattle.nb_map.specs.Maps.{IsMadeFor}
use Rattle.nb_map.specs.Opening.{HaveBegunWith, IsTooSmallFor}
use Rattle.nb_long.specs.Handles.{HandleOf, IsSameMap, seats_of}

-- ---- a typed map made anew

-- The old map of numbers ends with this handle: there is one log of all its calls, as if it had been
-- closed. The new one, of this shape, begins as this log leaves the old one. The store is the old
-- one: each number shows what it showed, and each receipt reads what it read.
pub record HasRenewed (p : Plan) (before after : HandleOf) : Type 0 where
  pub ended : EndedOf
  pub left : EndedWith (seats_of before) ended
  pub made : IsMadeFor after.map.map p
  pub begun : HaveBegunWith after.map.map (map_left ended) (seats_of after)
  pub store : after.map.store ≡ before.map.store

-- The map that the handle's calls leave has more keys than the last table of the shape has slots.
pub record HasTooMany (p : Plan) (before : HandleOf) : Type 0 where
  pub ended : EndedOf
  pub left : EndedWith (seats_of before) ended
  pub small : IsTooSmallFor p (map_left ended)

-- ---- a renewal that is refused

-- The handle is as it was; or it is of its map and store still, and each of its seats has made at
-- most the reads of a walk.
abbrev pub IsKept : (before after : HandleOf) → Type 0
IsKept before after =
    (after ≡ before)
    ⊎ IsSameMap before after × HaveOnlyRead before.map.map (seats_of before) (seats_of after)
