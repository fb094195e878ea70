-- How contracts see a chain and its seats.
use Rattle.std.specs.Prelude.{◌≡◌, ◌≢◌, ℕ, ◌+◌, ◌≤◌, ◌==◌, List, [], ◌++◌, drop, filter, map, All}
use Rattle.std.specs.List.{range_with_len}
use Rattle.atomic_table.specs.Seated.{TableId}
use Rattle.nb_core.specs.Plans.{IsPlan, Plan}
use Rattle.nb_core.specs.Tables.{Tables, tables_at}
use Rattle.nb_core.specs.History.{IsLegal, seat_of_event}
use Rattle.nb_core.specs.declared.events.Event.{Event}

-- a chain: which one it is, and its shape
pub record ChainOf : Type 0 where
  pub id : TableId
  pub shape : Plan

-- a chain's seat
pub record SeenBy : Type 0 where
  -- which chain's it is
  pub chain : TableId
  pub number : ℕ
  -- what it has seen, the newest event first
  pub seen : List Event
  -- how many steps it has made
  pub steps : ℕ
  -- the top table that it remembers; the top may have risen since
  pub top : ℕ

-- The seat is one of this chain's, whose shape is a plan, and what it has seen is a legal history.
pub record IsOwn (chain : ChainOf) (seat : SeenBy) : Type 0 where
  pub at : seat.chain ≡ chain.id
  pub plan : IsPlan chain.shape
  pub legal : IsLegal chain.shape seat.seen
  -- the top table that it remembers is at most the top of what it has seen
  pub known : seat.top ≤ (tables_at chain.shape seat.seen).top

-- all these seats are this chain's
abbrev pub AreOwn : ChainOf → List SeenBy → Type 0
AreOwn chain seats = All (IsOwn chain) seats

-- what the words said when the seat saw them last
abbrev pub seen_by : Plan → SeenBy → Tables
seen_by p seat = tables_at p seat.seen

-- what they said just before the newest event that it has seen
abbrev pub seen_before : Plan → SeenBy → Tables
seen_before p seat = tables_at p (drop 1 seat.seen)

-- a chain's seat that has seen nothing
abbrev pub new_seat : TableId → ℕ → SeenBy
new_seat id number = record { chain = id; number = number; seen = []; steps = 0; top = 0 }

-- so many of them, numbered by their places
abbrev pub new_seats : TableId → ℕ → List SeenBy
new_seats id count = map (new_seat id) (range_with_len 0 count)

-- The seat remembers the top of all that it has seen, as after each step that finds the top word.
abbrev pub KnowsTop : Plan → SeenBy → Type 0
KnowsTop p seat = seat.top ≡ (seen_by p seat).top

-- What a seat remembers over its steps.
pub record Remembers (p : Plan) (before after : SeenBy) : Type 0 where
  -- the top table that it remembers never falls
  pub rises : before.top ≤ after.top
  -- and where it was at most the top of what the seat had seen, it is so of what it has seen now
  pub known :
      IsPlan p → before.top ≤ (seen_by p before).top → after.top ≤ (seen_by p after).top

-- After a step the seat has seen more: events of other seats, and then these of its own, in this
-- order. All that it has seen is a legal history, and it made so many steps.
pub record Extended (p : Plan) (before after : SeenBy) (own : List Event) (count : ℕ) : Type 0 where
  pub chain : after.chain ≡ before.chain
  pub number : after.number ≡ before.number
  pub others : List Event
  pub seen : after.seen ≡ own ++ (others ++ before.seen)
  pub not_own : All (λ e. seat_of_event e ≢ before.number) others
  pub mine : All (λ e. seat_of_event e ≡ before.number) own
  pub legal : IsLegal p after.seen
  pub steps : after.steps ≡ before.steps + count
  pub remembers : Remembers p before after

-- a seat's events among these
abbrev pub own_events : ℕ → List Event → List Event
own_events number = filter (λ e. seat_of_event e == number)

-- After any number of steps the seat has seen more, all of it a legal history, in which just these
-- events are new and its own. It made so many steps.
pub record Grown (p : Plan) (before after : SeenBy) (own : List Event) (count : ℕ) : Type 0 where
  pub chain : after.chain ≡ before.chain
  pub number : after.number ≡ before.number
  pub later : List Event
  pub seen : after.seen ≡ later ++ before.seen
  pub own_are : own_events before.number later ≡ own
  pub legal : IsLegal p after.seen
  pub steps : after.steps ≡ before.steps + count
  pub remembers : Remembers p before after
