-- A set that has keys from the start: what its seats know.
use Rattle.std.specs.FinMap as finite
use Rattle.std.specs.FinMap.{empty, insert}
use Rattle.std.specs.List.{range_with_len}
use Rattle.std.specs.Prelude.{◌≡◌, ◌-◌, ◌<◌, ℕ, List, [], ◌∷◌, All, map}
use Rattle.nb_core.specs.Plans.{Plan, generations_of, size_of}
use Rattle.nb_table.specs.Chains.{KnowsTop}
use Rattle.nb_map.specs.Crowding as of_map
use Rattle.nb_set.specs.Handles.{HandleOf, seats_of}
use Rattle.nb_set.specs.Log.{Add, Call, Entry, IsReplayed, Keys, set_of_log}
use Rattle.nb_set.specs.OfMap.{call_for}
use Rattle.nb_set.specs.Sets.{IsMadeFor, SeatOf, SetOf, log, seat_number, shape_of}

-- the set of these keys
abbrev pub set_of_keys : List ℕ → Keys
set_of_keys [] = empty
set_of_keys (k ∷ rest) = insert (set_of_keys rest) k tt

-- the last table of the shape has fewer slots than this set has keys
abbrev pub IsTooSmallFor : Plan → Keys → Type 0
IsTooSmallFor p content = size_of p (generations_of p - 1) < finite.len content

-- Whatever the seat was asked to do, of the keys that it claimed slots for these calls add each that
-- is new to the tables.
abbrev pub HasAskedFor : SetOf → List Call → SeatOf → Type 0
HasAskedFor set calls seat =
    of_map.HasAskedFor (shape_of set) (map call_for calls) seat.chain

-- The seats of a new set, numbered by their places. Their logs are one and the same log, which
-- leaves this set. They have claimed slots for its keys alone, so every other slot is free. Each
-- remembers the top table of what it has seen, so its calls begin there.
pub record HaveBegunWith (set : SetOf) (content : Keys) (seats : List SeatOf) : Type 0 where
  pub numbered : map seat_number seats ≡ range_with_len 0 (shape_of set).seats
  pub whole : List Entry
  pub replayed : IsReplayed whole
  pub logs : All (λ seat. log seat ≡ whole) seats
  pub leaves : set_of_log whole ≡ content
  pub claimed : All (HasAskedFor set (map Add (finite.keys content))) seats
  pub tops : All (λ seat. KnowsTop (shape_of set) seat.chain) seats

-- the handle has all seats of a new set of this shape, which begins as this set
pub record BeginsWith (p : Plan) (content : Keys) (handle : HandleOf) : Type 0 where
  pub made : IsMadeFor handle.set p
  pub begun : HaveBegunWith handle.set content (seats_of handle)
