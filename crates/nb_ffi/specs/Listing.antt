-- Parts of a walk, which are written into a caller's array.
use Rattle.std.specs.Prelude.{◌≡◌, ◌<◌, ◌⊎◌, ◌++◌, ◌∷◌, ℕ, ℤ, List, [], length, Option, Some, None}
use Rattle.nb_map.specs.Handles.{HandleOf}
use Rattle.nb_map.specs.Maps.{SeatOf}
use Rattle.nb_map.specs.Walks.{IsWalkOf, walk_from}
use Rattle.nb_map.specs.declared.map.walks.WalkPlace.{WalkPlace}
use Rattle.nb_ffi.specs.Cursors.{place_in}
use Rattle.nb_ffi.specs.Entries.{written_over}
use Rattle.nb_ffi.specs.Handles.{StaysOpen}
use Rattle.nb_ffi.specs.Promises.{HasBegunWalkAt, HasWalkedUpTo}
use Rattle.nb_ffi.specs.declared.codes.TheConstants.{ABSENT, PRESENT}
use Rattle.nb_ffi.specs.declared.cursor.Cursor.{Cursor}
use Rattle.nb_ffi.specs.declared.ended_map.MapEntry.{MapEntry}

-- A walk was begun with this code, at this slot of the top table, and the cursor has it; or that
-- table has no such slot, and the cursor is as it was.
abbrev pub IsBegun :
    (slot : ℕ) → (code : ℤ) → (cursor cursor' : Cursor) → (before after : Option HandleOf) → Type 0
IsBegun slot code cursor cursor' before after =
    ((code ≡ PRESENT) × StaysOpen before after (HasBegunWalkAt slot (Some (place_in cursor'))))
    ⊎ ((code ≡ ABSENT) × (cursor' ≡ cursor) × StaysOpen before after (HasBegunWalkAt slot None))

-- Some calls of the walk that this seat began took it from one place to another, up to a slot of
-- its first table. They showed these pairs, one after another, and each showed one.
pub data HasShownUpTo (end : ℕ) (begun : SeatOf) (before : HandleOf) (from : WalkPlace) :
    (after : HandleOf) → (to : WalkPlace) → List (ℕ × ℕ) → Type 0 where
  Begun : HasShownUpTo end begun before from before from []
  Showed :
      {now after : HandleOf} {at to : WalkPlace} {pairs : List (ℕ × ℕ)} {pair : ℕ × ℕ}
      → HasShownUpTo end begun before from now at pairs
      → HasWalkedUpTo end begun at to (Some pair) now after
      → HasShownUpTo end begun before from after to (pairs ++ pair ∷ [])

-- so did calls of each walk that the seat began and that was here
abbrev pub HasListedPart :
    (end : ℕ) → (from to : WalkPlace) → List (ℕ × ℕ) → (before after : HandleOf) → Type 0
HasListedPart end from to pairs before after =
    (begun : SeatOf) → IsWalkOf before.map before.seat (walk_from begun from)
    → HasShownUpTo end begun before from after to pairs

-- and one more of them showed nothing, since the walk has come to the slot, or to its end
abbrev pub HasListedWholePart :
    (end : ℕ) → (from to : WalkPlace) → List (ℕ × ℕ) → (before after : HandleOf) → Type 0
HasListedWholePart end from to pairs before after =
    (begun : SeatOf) → IsWalkOf before.map before.seat (walk_from begun from)
    → (now : HandleOf) × (at : WalkPlace) × HasShownUpTo end begun before from now at pairs
    × HasWalkedUpTo end begun at to None now after

-- A part of a walk was listed with this code. What it showed is in the array, behind which that is
-- as it was, and it is written how many pairs these are: as many as there is room for; or all, up
-- to where the part ends.
pub data IsList (end : ℕ) (code : ℤ) (cursor cursor' : Cursor) (count' : ℕ)
    (room room' : List MapEntry) (before after : Option HandleOf) : Type 0 where
  Full :
      code ≡ PRESENT → (pairs : List (ℕ × ℕ)) → count' ≡ length pairs
      → length pairs ≡ length room → room' ≡ written_over pairs room
      → StaysOpen before after (HasListedPart end (place_in cursor) (place_in cursor') pairs)
      → IsList end code cursor cursor' count' room room' before after
  All :
      code ≡ ABSENT → (pairs : List (ℕ × ℕ)) → count' ≡ length pairs
      → length pairs < length room → room' ≡ written_over pairs room
      → StaysOpen before after (HasListedWholePart end (place_in cursor) (place_in cursor') pairs)
      → IsList end code cursor cursor' count' room room' before after
