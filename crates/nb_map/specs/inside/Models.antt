-- What is in a map, its seats, walks and handles, and in what is left of it, and how contracts see
-- it.
use Rattle.std.specs.Arc.{arc_value}
use Rattle.std.specs.FinMap as numbers
use Rattle.std.specs.Prelude.{◌≡◌, ◌≤◌, [], length, List, map, vec_capacity}
use Rattle.nb_core.specs.Plans.{IsPlan}
use Rattle.nb_count.specs.Counts.{CountSeatOf}
use Rattle.nb_table.specs.Chains.{SeenBy}
use Rattle.nb_table.specs.Left.{IsLeft}
use Rattle.nb_map.specs.Ending.{EndedOf, map_left}
use Rattle.nb_map.specs.Handles.{HandleOf, HandleWalkOf}
use Rattle.nb_map.specs.Maps.{AreMine, IsMine, MapOf, SeatOf}
use Rattle.nb_map.specs.Walks.{IsWalkOf, WalkOf, walk_from}
use Rattle.nb_map.specs.declared.map.ended.Ended.TheInside as ended
use Rattle.nb_map.specs.declared.handle.Handle.TheInside as handle
use Rattle.nb_map.specs.declared.handle.walks.HandleWalk.TheInside as handle_walk
use Rattle.nb_map.specs.declared.map.Map.TheInside as map
use Rattle.nb_map.specs.declared.map.Seat.TheInside as seat
use Rattle.nb_map.specs.declared.map.settling.SettlingRoom.TheInside as room
use Rattle.nb_map.specs.declared.map.walks.Walk.TheInside as walk

-- the map, as contracts see it
abbrev pub map_within : map.Inside → MapOf
map_within c = record { chain = c.chain; counter = c.counter }

-- the shape is a plan, the counter has as many seats as the chain, and there is room for them
pub record IsMap (c : map.Inside) : Type 0 where
  pub plan : IsPlan c.chain.shape
  pub seats : c.counter.seats ≡ c.chain.shape.seats
  pub chain_room : c.chain.shape.seats ≤ c.chain_room
  pub count_room : c.chain.shape.seats ≤ c.count_room

-- the seat, as contracts see it
abbrev pub seat_of : seat.Inside → SeatOf
seat_of c = record { chain = c.chain; count = c.count }

-- its vectors are empty, each with room for so many seats
pub record IsSettlingRoom (c : room.Inside) : Type 0 where
  pub gathered : (c.gathered.items ≡ []) × (c.seats ≤ vec_capacity c.gathered)
  pub chain_room : (c.chain_room.items ≡ []) × (c.seats ≤ vec_capacity c.chain_room)
  pub count_room : (c.count_room.items ≡ []) × (c.seats ≤ vec_capacity c.count_room)

-- the walk, as contracts see it
abbrev pub walk_of : walk.Inside → WalkOf
walk_of c = walk_from c.begun.value c.at

-- the handle, as contracts see it
abbrev pub handle_of : handle.Inside → HandleOf
handle_of c = record { map = (arc_value c.shared).map; seat = c.seat; reserve = c.reserve }

-- its seats are the map's
pub record IsHandle (c : handle.Inside) : Type 0 where
  pub own : IsMine (arc_value c.shared).map c.seat
  pub reserve : AreMine (arc_value c.shared).map c.reserve

-- the walk by a handle, as contracts see it
abbrev pub handle_walk_of : handle_walk.Inside → HandleWalkOf
handle_walk_of c = record { handle = c.handle; walk = c.walk }

-- the walk is that of the handle's seat
abbrev pub IsHandleWalk : handle_walk.Inside → Type 0
IsHandleWalk c = IsWalkOf c.handle.map c.handle.seat c.walk

-- the ended map, as contracts see it
abbrev pub ended_of : ended.Inside → EndedOf
ended_of c = record { tables = c.closed; size = c.size }

-- a legal history left the tables, and the size is the number of the map's keys
pub record IsEnded (c : ended.Inside) : Type 0 where
  pub left : IsLeft c.closed
  pub size : c.size ≡ length (numbers.entries (map_left (ended_of c)))

-- the seats are parted in those of the chain and those of the counter
pub record IsParted (seats : List SeatOf) (chains : List SeenBy) (counts : List CountSeatOf) :
    Type 0 where
  pub of_chain : chains ≡ map (λ seat. seat.chain) seats
  pub of_counter : counts ≡ map (λ seat. seat.count) seats
