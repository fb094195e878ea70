-- A set is made anew: what its handle knows then, and what a refused renewal leaves.
use Rattle.std.specs.List.{AllZip}
use Rattle.std.specs.Prelude.{◌≡◌, ◌⊎◌, ℕ, Bool, List, All}
use Rattle.nb_core.specs.Plans.{Plan}
use Rattle.nb_map.specs.Bulk.{whole_walk_steps}
use Rattle.nb_set.specs.Ending.{EndedOf, EndedWith, set_left}
use Rattle.nb_set.specs.Handles.{HandleOf, IsSameSet, seats_of}
use Rattle.nb_set.specs.Log.{Call, Contains}
use Rattle.nb_set.specs.Opening.{BeginsWith, IsTooSmallFor}
use Rattle.nb_set.specs.Sets.{HasLogged, HasWorked, IsMine, SeatOf, SetOf, shape_of}

-- ---- a set made anew

-- The old set ends with this handle: there is one log of all its calls, as if it had been closed.
-- The new set, of this shape, begins as this log leaves the old one.
pub record HasRenewed (p : Plan) (before after : HandleOf) : Type 0 where
  pub ended : EndedOf
  pub left : EndedWith (seats_of before) ended
  pub begun : BeginsWith p (set_left ended) after

-- The set that the handle's calls leave has more keys than the last table of the shape has slots.
pub record HasTooMany (p : Plan) (before : HandleOf) : Type 0 where
  pub ended : EndedOf
  pub left : EndedWith (seats_of before) ended
  pub small : IsTooSmallFor p (set_left ended)

-- ---- a renewal that is refused

-- the call asked whether a key is there
abbrev pub IsAsk : Call × Bool → Type 0
IsAsk made = (k : ℕ) × (found : Bool) × (made ≡ (Contains k, found))

-- The seat has only asked for keys, with at most so many steps.
pub record HasOnlyAsked (set : SetOf) (before after : SeatOf) (most : ℕ) : Type 0 where
  pub made : List (Call × Bool)
  pub asks : All IsAsk made
  pub logged : HasLogged before after made
  -- its steps are such as a `contains` may make, of any key, as those of a walk are: it installs no
  -- table, and claims a slot only for a key that has one in the table below
  pub worked : (key : ℕ) → HasWorked set (Contains key) before after most
  -- it made no step on the counter
  pub count : after.count ≡ before.count
  pub own : IsMine set after

-- each of these seats has only asked for keys, in at most the steps of a walk
abbrev pub HaveOnlyAsked : SetOf → (before after : List SeatOf) → Type 0
HaveOnlyAsked set before after =
    AllZip (λ old new. HasOnlyAsked set old new (whole_walk_steps (shape_of set))) before after

-- The handle is as it was; or it is of its set still, and its seats have only asked for keys.
abbrev pub IsKept : (before after : HandleOf) → Type 0
IsKept before after =
    (after ≡ before)
    ⊎ IsSameSet before after × HaveOnlyAsked before.set (seats_of before) (seats_of after)
