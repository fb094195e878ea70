-- A map that has entries from the start: what its seats know.
use Rattle.std.specs.FinMap as numbers
use Rattle.std.specs.List.{range_with_len}
use Rattle.std.specs.Prelude.{◌≡◌, ◌-◌, ◌<◌, ℕ, List, All, length, map, reverse}
use Rattle.nb_core.specs.Log.{Entry, IsReplayed, Numbers, map_of_log}
use Rattle.nb_core.specs.Plans.{Plan, generations_of, size_of}
use Rattle.nb_table.specs.Chains.{KnowsTop}
use Rattle.nb_map.specs.Bulk.{put_entry}
use Rattle.nb_map.specs.Crowding.{HasAskedFor}
use Rattle.nb_map.specs.Handles.{HandleOf, seats_of}
use Rattle.nb_map.specs.Logs.{log}
use Rattle.nb_map.specs.Maps.{IsMadeFor, MapOf, SeatOf}

-- the map of entries, where the later one of a key wins
abbrev pub map_of_entries : List (ℕ × ℕ) → Numbers
map_of_entries entries = numbers.from_entries (reverse entries)

-- the last table of the shape has fewer slots than this map has keys
abbrev pub IsTooSmallFor : Plan → Numbers → Type 0
IsTooSmallFor p content = size_of p (generations_of p - 1) < length (numbers.entries content)

-- The seats of a new map, numbered by their places. Their logs are one and the same log, which
-- leaves this map. They have claimed slots for its keys alone, so every other slot is free. Each
-- remembers the top table of what it has seen, so its calls begin there.
pub record HaveBegunWith (m : MapOf) (content : Numbers) (seats : List SeatOf) : Type 0 where
  pub numbered : map (λ seat. seat.chain.number) seats ≡ range_with_len 0 m.chain.shape.seats
  pub whole : List Entry
  pub replayed : IsReplayed whole
  pub logs : All (λ seat. log seat ≡ whole) seats
  pub leaves : map_of_log whole ≡ content
  pub claimed :
      All (λ seat. HasAskedFor m.chain.shape (map put_entry (numbers.entries content)) seat.chain)
      seats
  pub tops : All (λ seat. KnowsTop m.chain.shape seat.chain) seats

-- the handle has all seats of a new map of this shape, which begins as this map
pub record BeginsWith (p : Plan) (content : Numbers) (handle : HandleOf) : Type 0 where
  pub made : IsMadeFor handle.map p
  pub begun : HaveBegunWith handle.map content (seats_of handle)
