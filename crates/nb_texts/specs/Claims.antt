-- For which keys the seats of a map claim slots.
use Rattle.std.specs.FinMap.{entries}
use Rattle.std.specs.Prelude.{List, ◌++◌, map}
use Rattle.nb_core.specs.Log.{Numbers}
use Rattle.nb_core.specs.Plans.{Plan}
use Rattle.nb_core.specs.declared.calls.Call.{Call}
use Rattle.nb_map.specs.Bulk.{put_entry}
use Rattle.nb_map.specs.Crowding.{HasAskedFor}
use Rattle.nb_map.specs.Maps.{SeatOf}

-- what the seat has claimed since, it claimed for these calls
abbrev pub HasClaimedBy : Plan → List Call → (before after : SeatOf) → Type 0
HasClaimedBy p calls before after =
    (earlier : List Call) → HasAskedFor p earlier before.chain
    → HasAskedFor p (calls ++ earlier) after.chain

-- the seat has claimed slots for the map's keys alone
abbrev pub ClaimsOnly : Plan → Numbers → SeatOf → Type 0
ClaimsOnly p m seat = HasAskedFor p (map put_entry (entries m)) seat.chain
