-- What a handle with all seats does for the whole map, by the codes of C.
use Rattle.std.specs.Prelude.{◌≡◌, ◌≤◌, ◌<◌, ℕ, ℤ, List, Option, Result, Ok, Err, Some, length}
use Rattle.nb_core.specs.Plans.{Plan}
use Rattle.nb_map.specs.Entries.{HaveListed}
use Rattle.nb_map.specs.Handles.{HandleOf, IsSameMap, IsWhole, seats_of}
use Rattle.nb_map.specs.Maps.{AreMine}
use Rattle.nb_map.specs.Renewing.{HasRenewed, HasTooMany, IsKept}
use Rattle.nb_map.specs.Settling.{HaveSettled}
use Rattle.nb_ffi.specs.Entries.{written_over}
use Rattle.nb_ffi.specs.Handles.{HasAllSeats, StaysOpen}
use Rattle.nb_ffi.specs.declared.codes.TheConstants.{E_FULL, E_NOT_ALL_SEATS, E_OUT_OF_MEMORY, E_ROOM, OK}
use Rattle.nb_ffi.specs.declared.ended_map.MapEntry.{MapEntry}

-- the handle is as it was, and lacks a seat of its map
pub record LacksSeats (before after : Option HandleOf) : Type 0 where
  pub handle : HandleOf
  pub was : before ≡ Some handle
  pub lacks : IsWhole handle → ⊥
  pub same : after ≡ before

-- ---- the exact size

-- all seats of the map, which the handle has, have settled, and the map has so many keys
pub record HasSettled (size : ℕ) (before after : HandleOf) : Type 0 where
  pub promised : HaveSettled before.map (seats_of before) (seats_of after) size
  pub map : IsSameMap before after
  pub whole : IsWhole before

-- Seats were settled with this code, and the number of keys is written; or all is as it was, for
-- want of memory or of seats.
pub data IsSettling (code : ℤ) (size size' : ℕ) (before after : Option HandleOf) : Type 0 where
  Settled :
      code ≡ OK → StaysOpen before after (HasSettled size')
      → IsSettling code size size' before after
  Kept :
      code ≡ E_OUT_OF_MEMORY → HasAllSeats before → size' ≡ size → after ≡ before
      → IsSettling code size size' before after
  Lacks :
      code ≡ E_NOT_ALL_SEATS → size' ≡ size → LacksSeats before after
      → IsSettling code size size' before after

-- ---- all entries

-- these are the entries of the handle's map, which goes on
pub record HasListedMap (entries : List (ℕ × ℕ)) (before after : HandleOf) : Type 0 where
  pub promised : HaveListed (seats_of before) (seats_of after) entries
  pub kept : IsKept before after
  pub whole : IsWhole before

-- Entries were listed with this code, and it is written how many: they are in the array, or that is
-- as it was, and too small. Or nothing is written, for want of memory or of seats.
pub data IsMapListing (code : ℤ) (count count' : ℕ) (room room' : List MapEntry)
    (before after : Option HandleOf) : Type 0 where
  Listed :
      code ≡ OK → (entries : List (ℕ × ℕ)) → count' ≡ length entries
      → length entries ≤ length room → room' ≡ written_over entries room
      → StaysOpen before after (HasListedMap entries)
      → IsMapListing code count count' room room' before after
  Long :
      code ≡ E_ROOM → (entries : List (ℕ × ℕ)) → count' ≡ length entries
      → length room < length entries → room' ≡ room → StaysOpen before after (HasListedMap entries)
      → IsMapListing code count count' room room' before after
  Kept :
      code ≡ E_OUT_OF_MEMORY → count' ≡ count → room' ≡ room → HasAllSeats before
      → StaysOpen before after IsKept
      → IsMapListing code count count' room room' before after
  Lacks :
      code ≡ E_NOT_ALL_SEATS → count' ≡ count → room' ≡ room → LacksSeats before after
      → IsMapListing code count count' room room' before after

-- ---- a new map

-- a handle that had all seats of a map has all seats of a new one of this shape
pub record HasMadeAnew (p : Plan) (before after : HandleOf) : Type 0 where
  pub promised : HasRenewed p before after
  pub own : AreMine after.map (seats_of after)
  pub whole : IsWhole before

-- A map was made anew with this code, in the shape that was asked for. Or the handle is of the old
-- one still, which has too many keys for it, or there was no memory; or all is as it was, for want
-- of seats, or since the shape is none.
pub data IsRenewing (asked : Result Plan ℤ) (code : ℤ) (before after : Option HandleOf) :
    Type 0 where
  Renewed :
      code ≡ OK → (p : Plan) → asked ≡ Ok p → StaysOpen before after (HasMadeAnew p)
      → IsRenewing asked code before after
  Full :
      code ≡ E_FULL → (p : Plan) → asked ≡ Ok p → HasAllSeats before
      → StaysOpen before after (λ old new. HasTooMany p old × IsKept old new)
      → IsRenewing asked code before after
  Kept :
      code ≡ E_OUT_OF_MEMORY → (p : Plan) → asked ≡ Ok p → HasAllSeats before
      → StaysOpen before after IsKept
      → IsRenewing asked code before after
  Lacks :
      code ≡ E_NOT_ALL_SEATS → (p : Plan) → asked ≡ Ok p → LacksSeats before after
      → IsRenewing asked code before after
  Refused : asked ≡ Err code → after ≡ before → IsRenewing asked code before after
