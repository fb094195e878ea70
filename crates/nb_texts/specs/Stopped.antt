-- A catalog whose call was refused: what its seats have done since it was at rest.
use Rattle.std.specs.Prelude.{◌≡◌, ◌≤◌, ◌++◌, ℕ, All, List}
use Rattle.nb_core.specs.Log.{Entry, calls_of, map_of_log}
use Rattle.nb_core.specs.Plans.{HasRoomFor}
use Rattle.nb_core.specs.declared.calls.Call.{Call}
use Rattle.nb_core.specs.declared.calls.Reply.{Reply}
use Rattle.nb_core.specs.declared.shapes.TheConstants.{MOST_KEYS}
use Rattle.nb_map.specs.Entries.{IsRead}
use Rattle.nb_map.specs.Handles.{HandleOf, IsWhole}
use Rattle.nb_map.specs.Logs.{log}
use Rattle.nb_map.specs.Maps.{SeatOf}
use Rattle.nb_texts.specs.Entering.{AreReplayed, IsIndex, map_after_calls}
use Rattle.nb_texts.specs.Hashes.{key_for}
use Rattle.nb_texts.specs.Memory.{shape_with_room}
use Rattle.nb_texts.specs.declared.catalog.Catalog.{Catalog}

-- ---- what a seat has made since a log

-- these calls
pub record HasMadeSince (base : List Entry) (made : List (Call × Reply)) (seat : SeatOf) : Type 0 where
  pub later : List Entry
  pub is : log seat ≡ later ++ base
  pub calls : calls_of seat.chain.number later ≡ made

-- reads alone
pub record HasReadSince (base : List Entry) (seat : SeatOf) : Type 0 where
  pub later : List Entry
  pub is : log seat ≡ later ++ base
  pub reads : All IsRead (calls_of seat.chain.number later)

-- ---- a catalog that can be brought to rest

-- Since a log the handle's seat has made these calls, and the others have read. If the calls reply as
-- the map does that the log leaves, the map that they leave is an index of the texts.
pub record HasIndexed (key : List ℕ → ℕ → ℕ) (texts : List (List ℕ)) (handle : HandleOf) : Type 0 where
  pub base : List Entry
  pub made : List (Call × Reply)
  pub own : HasMadeSince base made handle.seat
  pub others : All (HasReadSince base) handle.reserve
  pub told :
      AreReplayed made (map_of_log base) → IsIndex key texts (map_after_calls made (map_of_log base))

-- It has all seats of its map, which was made for so many, and once all calls are known the map is an
-- index of its texts.
pub record CanRest (catalog : Catalog) : Type 0 where
  pub whole : IsWhole catalog.handle
  pub index : HasIndexed (key_for catalog.hashing) catalog.texts catalog.handle
  pub made : catalog.handle.map.chain.shape ≡ shape_with_room catalog.room
  pub room : HasRoomFor catalog.handle.map.chain.shape catalog.room
  pub most : catalog.room ≤ MOST_KEYS
