-- What the seats of a chain know once they are settled, and what follows.
use Rattle.std.specs.Prelude.{◌≡◌, ℕ, ◌<◌, ◌==◌, List, map, All, count_by}
use Rattle.nb_core.specs.Plans.{IsPlan, Plan}
use Rattle.nb_core.specs.Tables.{tables_at, words_of}
use Rattle.nb_core.specs.History.{IsLegal}
use Rattle.nb_core.specs.declared.events.Event.{Event}
use Rattle.nb_table.specs.Chains.{SeenBy}
use Rattle.nb_table.specs.Gathered.{ClosedWith}
use Rattle.nb_table.specs.Left.{ClosedOf}
use Rattle.nb_table.specs.Views.{HasSeen, IsChained, Moment, parts_at}
use Rattle.nb_table.specs.declared.view.Part.{Part}

-- the seat, when it has seen this history and remembers its top table
abbrev pub caught_up : Plan → List Event → SeenBy → SeenBy
caught_up p history seat = record seat { seen = history; top = (tables_at p history).top }

-- There is one legal history, which goes on from what each seat had seen by events of other seats
-- alone. Each number is one seat's, so each event was seen by the seat that made it: none is
-- missing. Now every seat has seen this history.
pub record Settled (p : Plan) (before after : List SeenBy) : Type 0 where
  pub history : List Event
  pub legal : IsLegal p history
  pub seen : All (λ seat. HasSeen history seat.number seat.seen) before
  pub once : (n : ℕ) → n < p.seats → count_by (λ seat. seat.number == n) before ≡ 1
  pub is : after ≡ map (caught_up p history) before

-- At a moment at which all seats have seen the same, this is the whole history, and the words are
-- what it left.
abbrev pub SettledIsAll : Type 0
SettledIsAll =
    (p : Plan) (s : Moment) (rule : IsChained p s) (history : List Event)
    → All (λ (part : Part). part.seen ≡ history) (parts_at s)
    → (rule.history ≡ history) × (s.words ≡ words_of p history)

-- Where the seats are settled twice and made no step between, the second time changes nothing.
abbrev pub SettledTwice : Type 0
SettledTwice =
    (p : Plan) → IsPlan p → (before after again : List SeenBy) → Settled p before after
    → Settled p after again → again ≡ after

-- a chain at rest: the words are what this history left
abbrev pub at_rest : Plan → List Event → ClosedOf
at_rest p history = record { shape = p; words = words_of p history; history = history }

-- What settled seats know is what they would know if they had closed the chain.
abbrev pub SettledAsClosed : Type 0
SettledAsClosed =
    (p : Plan) → IsPlan p → (before after : List SeenBy) → (settled : Settled p before after)
    → ClosedWith before (at_rest p settled.history)

-- And where they close it afterwards, that is what is left.
abbrev pub SettledIsLeft : Type 0
SettledIsLeft =
    (before after : List SeenBy) (closed : ClosedOf) → (settled : Settled closed.shape before after)
    → ClosedWith after closed → closed.history ≡ settled.history
