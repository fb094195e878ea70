-- Walks over the keys of a set.
use Rattle.std.specs.Prelude.{◌≡◌, ℕ, ◌++◌, ◌==◌, false, true, Bool, List, [], ◌∷◌, map, All, Option, None, Some}
use Rattle.std.specs.Prelude as std
use Rattle.std.specs.List.{IsDistinct}
use Rattle.nb_map.specs.Steps as steps
use Rattle.nb_map.specs.Walks as walks
use Rattle.nb_map.specs.declared.steps.walk.Place.TheVariants.{End}
use Rattle.nb_set.specs.Log.{Call, Contains, HeldThrough}
use Rattle.nb_set.specs.Sets.{HasLogged, HasWorked, IsMine, SeatOf, SetOf, log, shape_of}

-- a walk: that over the map which the set is kept in
pub record WalkOf : Type 0 where
  pub map : walks.WalkOf

-- the walk's seat, as it was when the walk began
abbrev pub begun : WalkOf → SeatOf
begun walk = walk.map.begun

-- the walk is of this set, and this seat began it
abbrev pub IsWalkOf : SetOf → SeatOf → WalkOf → Type 0
IsWalkOf set seat walk = walks.IsWalkOf set.map seat walk.map

-- the seat is the one that it was, and has forgotten nothing
abbrev pub IsLater : (before after : SeatOf) → Type 0
IsLater before after = walks.IsLater before after

-- the walk is at its end
abbrev pub HasEnded : WalkOf → Type 0
HasEnded walk = walk.map.place ≡ End

-- how many slots of the tables are still before a walk
abbrev pub slots_before : SetOf → WalkOf → ℕ
slots_before set walk = steps.slots_ahead (shape_of set) walk.map.place

-- the most steps that a walk makes on its way from one place to another
abbrev pub walking_steps : SetOf → (from to : WalkOf) → ℕ
walking_steps set from to = steps.passing_steps (shape_of set) from.map.place to.map.place

-- ---- what it shows

-- the call that saw the key that is shown
abbrev pub hit : Option ℕ → List (Call × Bool)
hit None = []
hit (Some k) = (Contains k, true) ∷ []

-- the call asked for a key that the set hadn't
abbrev pub IsMiss : Call × Bool → Type 0
IsMiss made = (k : ℕ) × (made ≡ (Contains k, false))

-- The seat has asked for keys alone: at last for the one that is shown, and before it for such as
-- the set hadn't.
pub record HasAsked (before after : SeatOf) (shown : Option ℕ) : Type 0 where
  pub misses : List (Call × Bool)
  pub missed : All IsMiss misses
  pub logged : HasLogged before after (hit shown ++ misses)

-- what a walk has shown, with this beside it
abbrev pub with_shown : Option ℕ → List ℕ → List ℕ
with_shown None shown = shown
with_shown (Some k) shown = k ∷ shown

-- The walk of this seat has shown these keys so far, the newest first.
pub record HasShown (set : SetOf) (seat : SeatOf) (walk : WalkOf) (shown : List ℕ) : Type 0 where
  pub pairs : List (ℕ × ℕ)
  pub keys : map (λ pair. pair.0) pairs ≡ shown
  pub is : walks.IsUnderway set.map seat walk.map pairs

-- What a whole walk has shown, from its seat's log as it began to that as it ended: no key twice;
-- keys that the seat has seen in the set meanwhile; and each key that the set had all the while.
pub record HasShownAll (begun ended : SeatOf) (shown : List ℕ) : Type 0 where
  pub once : IsDistinct (λ a b. a == b) shown
  pub made : List (Call × Bool)
  pub logged : HasLogged begun ended made
  pub seen : All (λ k. std.Contains made (Contains k, true)) shown
  pub held : (k : ℕ) → HeldThrough (log begun) (log ended) k → std.Contains shown k

-- A whole walk shows no key twice, what its seat has seen, and each key that the set had all the
-- while.
abbrev pub WholeWalk : Type 0
WholeWalk =
    (set : SetOf) (seat : SeatOf) (walk : WalkOf) (shown : List ℕ) → HasShown set seat walk shown
    → HasEnded walk
    → HasShownAll (begun walk) seat shown

-- A seat that has worked has forgotten nothing; and a walk is its seat's also after other calls of
-- the seat, and has shown what it had.
pub record WalkLasts : Type 0 where
  pub later :
      (set : SetOf) (call : Call) {before after : SeatOf} {most : ℕ}
      → HasWorked set call before after most → IsLater before after
  pub lasts :
      {set : SetOf} {before after : SeatOf} {walk : WalkOf} → IsWalkOf set before walk
      → IsMine set after → IsLater before after
      → IsWalkOf set after walk
  pub shown :
      {set : SetOf} {before after : SeatOf} {walk : WalkOf} {shown : List ℕ}
      → HasShown set before walk shown → IsMine set after
      → IsLater before after → HasShown set after walk shown
