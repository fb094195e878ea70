-- Walks over the keys of a map: where a walk is, and what it shows.
use Rattle.std.specs.List.{IsDistinct}
use Rattle.std.specs.Prelude.{◌≡◌, ◌<◌, ◌⊎◌, ℕ, ◌≤◌, Some, Option, None, IfSome, List, [], ◌++◌, All, ◌∷◌, ◌==◌, map, Contains, if◌then◌else◌, nat_lt}
use Rattle.nb_core.specs.Log.{IsBeginning, HeldThrough, log_of, reply_at}
use Rattle.nb_core.specs.Meaning.{place_of}
use Rattle.nb_core.specs.Plans.{Plan, generations_of, size_of}
use Rattle.nb_core.specs.Tables.{IsComplete, IsInstalled, Tables}
use Rattle.nb_core.specs.declared.calls.Call.TheVariants.{Get}
use Rattle.nb_core.specs.declared.calls.Call.{Call}
use Rattle.nb_core.specs.declared.calls.Reply.{Reply}
use Rattle.nb_table.specs.Chains.{SeenBy, seen_by}
use Rattle.nb_map.specs.Logs.{HasLogged, log}
use Rattle.nb_map.specs.Maps.{SeatOf, MapOf, IsMine, HasWorked}
use Rattle.nb_map.specs.declared.map.walks.WalkPlace.{WalkPlace}
use Rattle.nb_map.specs.declared.steps.walk.Place.TheVariants.{Slot, End}
use Rattle.nb_map.specs.declared.steps.walk.Place.{Place}

-- ---- places

-- One place comes before another, as a walk meets them: in an earlier table, or in an earlier slot
-- of the same one. The end comes after all.
abbrev pub IsBefore : Place → Place → Type 0
IsBefore End later = ⊥
IsBefore (Slot g i) End = Unit {0}
IsBefore (Slot g i) (Slot f j) = (g < f) ⊎ ((g ≡ f) × (i < j))

-- the slot comes at or after the first of two places, and before the second
abbrev pub IsBetween : (from to : Place) → (g i : ℕ) → Type 0
IsBetween from to g i = (IsBefore (Slot g i) from → ⊥) × IsBefore (Slot g i) to

-- ---- a walk

-- a walk: its seat, as it was when the walk began; its first table; and its place
pub record WalkOf : Type 0 where
  pub begun : SeatOf
  pub first : ℕ
  pub place : Place

-- the walk that this seat began and that is here
abbrev pub walk_from : SeatOf → WalkPlace → WalkOf
walk_from begun at = record { begun = begun; first = at.first; place = at.place }

-- A walk may have this table for its first: the seat has seen that all tables below it are
-- complete.
pub record IsFirstTable (p : Plan) (seat : SeenBy) (first : ℕ) : Type 0 where
  pub table : first < generations_of p
  pub complete : (g : ℕ) → g < first → IsComplete p (seen_by p seat) g

-- the place is a slot of a table that is there, from the first one on, or the end
abbrev pub IsPlace : Plan → Tables → (first : ℕ) → Place → Type 0
IsPlace p t first (Slot g i) = (first ≤ g) × IsInstalled t g × (i < size_of p g)
IsPlace p t first End = Unit {0}

-- the seat has the number that it had, and has forgotten nothing
pub record IsLater (before after : SeatOf) : Type 0 where
  pub number : after.chain.number ≡ before.chain.number
  pub seen : IsBeginning before.chain.seen after.chain.seen

-- The walk is of this map, and this seat began it. The seat has seen that the tables below the
-- walk's first one are complete, and that the table of its place is there.
pub record IsWalkOf (m : MapOf) (seat : SeatOf) (walk : WalkOf) : Type 0 where
  pub chain : walk.begun.chain.chain ≡ m.chain.id
  pub later : IsLater walk.begun seat
  pub first : IsFirstTable m.chain.shape seat.chain walk.first
  pub place : IsPlace m.chain.shape (seen_by m.chain.shape seat.chain) walk.first walk.place

-- A walk begins in the top table, with its first slot.
abbrev pub begun_by : MapOf → SeatOf → WalkOf
begun_by m seat =
    let top = (seen_by m.chain.shape seat.chain).top in
    record { begun = seat; first = top; place = Slot top 0 }

-- It may begin with another slot of that table, where there is such a one.
abbrev pub begun_at : MapOf → SeatOf → (slot : ℕ) → Option WalkPlace
begun_at m seat slot =
    let top = (seen_by m.chain.shape seat.chain).top in
    if nat_lt slot (size_of m.chain.shape top)
    then Some (record { first = top; place = Slot top slot })
    else None

-- where a part of a walk ends that goes up to a slot of its first table: at the walk's end, where the
-- table has no such slot
abbrev pub bound_at : Plan → (first end : ℕ) → Place
bound_at p first end = if nat_lt end (size_of p first) then Slot first end else End

-- ---- what it shows

-- the key's first place from the walk's first table on comes at or after the one of two places, and
-- before the other
abbrev pub IsPassedOver : Plan → SeenBy → (first : ℕ) → (from to : Place) → ℕ → Type 0
IsPassedOver p seat first from to k =
    (g : ℕ) × (i : ℕ) × (place_of p seat.seen first k ≡ Some (g, i)) × IsBetween from to g i

-- this is the key that was shown
abbrev pub IsShown : ℕ → Option (ℕ × ℕ) → Type 0
IsShown k None = ⊥
IsShown k (Some pair) = pair.0 ≡ k

-- From one moment of a seat to a later one a walk went on from one place to another. It passed over
-- the key that it shows, if it shows one, and over no other key that the map had all the while.
pub record HasPassed (p : Plan) (before after : SeenBy) (first : ℕ) (from to : Place)
    (shown : Option (ℕ × ℕ)) : Type 0 where
  pub onward : IsBefore to from → ⊥
  pub shows : IfSome shown (λ pair. IsPassedOver p after first from to pair.0)
  pub all :
      (k : ℕ) → HeldThrough (log_of before.seen) (log_of after.seen) k
      → IsPassedOver p after first from to k → IsShown k shown

-- It did so as this walk, which is then at the place that it went to.
pub record HasWalked (p : Plan) (before after : SeatOf) (walk walk' : WalkOf)
    (shown : Option (ℕ × ℕ)) : Type 0 where
  pub later : IsLater before after
  pub begun : walk'.begun ≡ walk.begun
  pub first : walk'.first ≡ walk.first
  pub passed : HasPassed p before.chain after.chain walk.first walk.place walk'.place shown

-- A walk that is here has come to a bound: to the end, or to this slot or beyond it.
abbrev pub HasReached : (bound place : Place) → Type 0
HasReached End place = place ≡ End
HasReached (Slot g i) place = IsBefore place (Slot g i) → ⊥

-- the read of the pair that is shown
abbrev pub hit : Option (ℕ × ℕ) → List (Call × Reply)
hit None = []
hit (Some pair) = (Get pair.0, reply_at (Get pair.0) (Some pair.1)) ∷ []

-- the call is a read of a key that the map hadn't
abbrev pub IsMiss : Call × Reply → Type 0
IsMiss made = (k : ℕ) × (made ≡ (Get k, reply_at (Get k) None))

-- The seat has made reads alone: at last the one of the pair that is shown, and before it such as
-- found nothing.
pub record HasRead (before after : SeatOf) (shown : Option (ℕ × ℕ)) : Type 0 where
  pub misses : List (Call × Reply)
  pub missed : All IsMiss misses
  pub logged : HasLogged before after (hit shown ++ misses)

-- ---- a whole walk

-- What a walk has shown so far, the newest pair first: nothing as it begins, no more after other
-- calls of its seat, and after each call of its own what that shows.
pub data IsUnderway (m : MapOf) : SeatOf → WalkOf → List (ℕ × ℕ) → Type 0 where
  Begun : {seat : SeatOf} → IsMine m seat → IsUnderway m seat (begun_by m seat) []
  Rested :
      {before after : SeatOf} {walk : WalkOf} {shown : List (ℕ × ℕ)}
      → IsUnderway m before walk shown → IsMine m after → IsLater before after
      → IsUnderway m after walk shown
  Showed :
      {before after : SeatOf} {walk walk' : WalkOf} {shown : List (ℕ × ℕ)} {pair : ℕ × ℕ}
      → IsUnderway m before walk shown → IsMine m after
      → HasRead before after (Some pair) → HasWalked m.chain.shape before after walk walk'
      (Some pair)
      → IsUnderway m after walk' (pair ∷ shown)
  Passed :
      {before after : SeatOf} {walk walk' : WalkOf} {shown : List (ℕ × ℕ)}
      → IsUnderway m before walk shown → IsMine m after
      → HasWalked m.chain.shape before after walk walk' None → IsUnderway m after walk' shown

-- what a walk has shown after one more call, the newest pair first
abbrev pub with_shown : Option (ℕ × ℕ) → List (ℕ × ℕ) → List (ℕ × ℕ)
with_shown None shown = shown
with_shown (Some pair) shown = pair ∷ shown

-- What a whole walk has shown, from its seat's log as it began to that as it ended: no key twice;
-- pairs that the seat has read meanwhile; and each key that the map had all the while.
pub record HasShownAll (begun ended : SeatOf) (shown : List (ℕ × ℕ)) : Type 0 where
  pub once : IsDistinct (λ a b. a == b) (map (λ pair. pair.0) shown)
  pub made : List (Call × Reply)
  pub logged : HasLogged begun ended made
  pub read : All (λ pair. Contains made (Get pair.0, reply_at (Get pair.0) (Some pair.1))) shown
  pub held : (k : ℕ) → HeldThrough (log begun) (log ended) k
      → Contains (map (λ pair. pair.0) shown) k

-- A whole walk, up to its end, shows no key twice, only pairs that its seat has read, and each key
-- that the map had all the while.
abbrev pub WholeWalk : Type 0
WholeWalk =
    (m : MapOf) (seat : SeatOf) (walk : WalkOf) (shown : List (ℕ × ℕ))
    → IsUnderway m seat walk shown → walk.place ≡ End
    → HasShownAll walk.begun seat shown

-- A walk is its seat's also after other calls of the seat.
pub record WalkLasts : Type 0 where
  pub later :
      {m : MapOf} {call : Call} {before after : SeatOf} {most : ℕ}
      → HasWorked m call before after most → IsLater before after
  pub lasts :
      {m : MapOf} {before after : SeatOf} {walk : WalkOf} → IsWalkOf m before walk → IsMine m after
      → IsLater before after
      → IsWalkOf m after walk
