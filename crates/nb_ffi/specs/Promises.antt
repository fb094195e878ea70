-- What the calls of a handle promise: what the map promises of the call, said of the handle's seat,
-- and that all else of the handle is as it was. The exports cite them.
use Rattle.std.specs.Prelude.{List, ℕ, max, Option}
use Rattle.nb_core.specs.declared.calls.Call.{Call}
use Rattle.nb_map.specs.Bulk as bulk
use Rattle.nb_map.specs.Fullness as fullness
use Rattle.nb_map.specs.Handles.{HandleOf, KeepsRest}
use Rattle.nb_map.specs.Maps.{MapOf, SeatOf}
use Rattle.nb_map.specs.Progress.{Tries}
use Rattle.nb_map.specs.Promises as of_map
use Rattle.nb_map.specs.Promises.{Outcome}
use Rattle.nb_map.specs.Walks.{IsWalkOf, bound_at, walk_from}
use Rattle.nb_map.specs.declared.map.walks.WalkPlace.{WalkPlace}
use Rattle.nb_map.specs.declared.occupancy.Occupancy.{Occupancy}
use Rattle.nb_ffi.specs.Cursors.{walk_in}
use Rattle.nb_ffi.specs.declared.cursor.Cursor.{Cursor}

-- the handle's seat has made a call of which the map promises this
pub record HasCalled (Promise : MapOf → (before after : SeatOf) → Type 0) (before after : HandleOf) :
    Type 0 where
  pub promised : Promise before.map before.seat after.seat
  pub rest : KeepsRest before after

-- ---- calls at a key

-- a read of a key, which finds this number there, or none
abbrev pub HasGot : (key : ℕ) → Option ℕ → (before after : HandleOf) → Type 0
HasGot key found = HasCalled (λ m before after. of_map.HasGot m key before after found)

-- reads of these keys, which find these numbers, or none
abbrev pub HasGotMany : (keys : List ℕ) → List (Option ℕ) → (before after : HandleOf) → Type 0
HasGotMany keys found = HasCalled (λ m before after. bulk.HasGotMany m keys before after found)

-- a write that has so many tries, and one at least
abbrev pub HasWritten : Call → (tries : ℕ) → Outcome → (before after : HandleOf) → Type 0
HasWritten call tries outcome =
    HasCalled (λ m before after.
    of_map.HasWritten m call before after (Tries (max tries 1)) outcome)

-- ---- looks at the map as a whole

-- a look at the top word, which shows that so many tables are complete
abbrev pub HasSeenTop : ℕ → (before after : HandleOf) → Type 0
HasSeenTop top = HasCalled (λ m before after. of_map.HasSeenTop m before after top)

-- a look at the counter
abbrev pub HasEstimated : (before after : HandleOf) → Type 0
HasEstimated = HasCalled of_map.HasEstimated

-- a look at how full the map is
abbrev pub HasSampled : Occupancy → (before after : HandleOf) → Type 0
HasSampled found = HasCalled (λ m before after. fullness.HasSampled m before after found)

-- a meeting with another handle's seat
abbrev pub HasMet : (other before after : HandleOf) → Type 0
HasMet other = HasCalled (λ m before after. of_map.HasMet m other.seat before after)

-- ---- walks

-- the beginning of a walk, which the cursor has then
abbrev pub HasBegunWalk : Cursor → (before after : HandleOf) → Type 0
HasBegunWalk cursor before after =
    HasCalled (λ m old new. of_map.HasBegunWalk m old new (walk_in new cursor)) before after

-- a call of each walk that the seat began and that the cursor has: it shows this pair, or ends it
abbrev pub HasWalkedOn :
    (cursor cursor' : Cursor) → Option (ℕ × ℕ) → (before after : HandleOf) → Type 0
HasWalkedOn cursor cursor' shown before after =
    (begun : SeatOf) → IsWalkOf before.map before.seat (walk_in begun cursor)
    → HasCalled (λ m old new. of_map.HasWalkedOn m old new (walk_in begun cursor)
    (walk_in begun cursor') shown) before after

-- the beginning of a walk at a slot of the top table, or nowhere
abbrev pub HasBegunWalkAt : (slot : ℕ) → Option WalkPlace → (before after : HandleOf) → Type 0
HasBegunWalkAt slot at = HasCalled (λ m before after. of_map.HasBegunWalkAt m before after slot at)

-- A call of the walk that this seat began, up to a slot of its first table: it shows this pair, or
-- has come there. Where the table has no such slot, it goes on to the walk's end.
abbrev pub HasWalkedUpTo :
    (end : ℕ) → (begun : SeatOf) → (from to : WalkPlace) → Option (ℕ × ℕ)
    → (before after : HandleOf)
    → Type 0
HasWalkedUpTo end begun from to shown =
    HasCalled (λ m before after. of_map.HasWalkedUpTo m (bound_at m.chain.shape from.first end)
    before after (walk_from begun from) (walk_from begun to) shown)
