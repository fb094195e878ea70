-- How contracts see a map and its seats.
use Rattle.std.specs.List.{range_with_len}
use Rattle.std.specs.Prelude.{◌≡◌, map, List, All, ℕ, zero, ℤ, pos, ◌+◌, ◌+ℤ◌}
use Rattle.nb_core.specs.Log.{calls_of, log_of}
use Rattle.nb_core.specs.Meaning.{net_of}
use Rattle.nb_core.specs.Plans.{IsPlan, Plan}
use Rattle.nb_core.specs.declared.calls.Call.{Call}
use Rattle.nb_count.specs.Counts as counts
use Rattle.nb_count.specs.Counts.{CounterOf, CountSeatOf}
use Rattle.nb_table.specs.Chains as chains
use Rattle.nb_table.specs.Chains.{ChainOf, SeenBy, IsOwn}
use Rattle.nb_map.specs.Calling.{HasMadeSome}

-- a map: its chain of tables, and the counter of its keys
pub record MapOf : Type 0 where
  pub chain : ChainOf
  pub counter : CounterOf

-- The map is of this shape, which is a plan, and its counter has as many stripes and seats.
pub record IsMadeFor (map : MapOf) (p : Plan) : Type 0 where
  pub shape : map.chain.shape ≡ p
  pub plan : IsPlan p
  pub stripes : map.counter.stripes ≡ p.stripes
  pub seats : map.counter.seats ≡ p.seats

-- a map's seat: what it has seen of the chain, and what it has counted
pub record SeatOf : Type 0 where
  pub chain : SeenBy
  pub count : CountSeatOf

-- what the seat has counted is what its calls added, less what they took out
abbrev pub HasCounted : SeatOf → Type 0
HasCounted seat = seat.count.added ≡ net_of (calls_of seat.chain.number (log_of seat.chain.seen))

-- The seat is one of this map's, on its chain and on its counter, and has counted its calls.
pub record IsMine (map : MapOf) (seat : SeatOf) : Type 0 where
  pub chain : IsOwn map.chain seat.chain
  pub counter : counts.IsOwn map.counter seat.count
  pub counted : HasCounted seat

-- all these seats are this map's
abbrev pub AreMine : MapOf → List SeatOf → Type 0
AreMine map seats = All (IsMine map) seats

-- a map's seat that has seen and counted nothing
abbrev pub new_seat : MapOf → ℕ → SeatOf
new_seat map number = record {
  chain = chains.new_seat map.chain.id number;
  count = counts.new_seat map.counter.id number;
}

-- so many of them, numbered by their places
abbrev pub new_seats : MapOf → ℕ → List SeatOf
new_seats m count = map (new_seat m) (range_with_len 0 count)

-- how many steps it takes to count this: one, or none where it is nothing
abbrev pub count_steps : ℤ → ℕ
count_steps (pos zero) = 0
count_steps net = 1

-- a counter's seat after it has counted this
abbrev pub accounted : ℤ → CountSeatOf → CountSeatOf
accounted net count =
    record count {
      added = count.added +ℤ net;
      adds = count.adds + count_steps net;
      steps = count.steps + count_steps net;
    }

-- The seat's events were such as this call may make, in at most so many steps on the chain. On the
-- counter it made no step, or one that added some number. (Which number follows from `IsMine`
-- before and after: what a seat has counted is what its calls did to the number of keys.)
pub record HasWorked (map : MapOf) (call : Call) (before after : SeatOf) (most : ℕ) : Type 0 where
  pub steps : HasMadeSome map.chain.shape call before.chain after.chain most
  pub net : ℤ
  pub count : after.count ≡ accounted net before.count
